pub mod Sweep
pub mod Lent
