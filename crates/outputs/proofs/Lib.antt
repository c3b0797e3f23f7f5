pub mod Outputs
pub mod Ready
