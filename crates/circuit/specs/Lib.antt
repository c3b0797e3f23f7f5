pub mod Circuit
pub mod Settled
