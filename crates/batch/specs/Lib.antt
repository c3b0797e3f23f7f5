pub mod Batch
pub mod Single
pub mod Laws
