pub mod Outputs
pub mod Codes
pub mod Lent
