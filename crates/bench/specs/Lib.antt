pub mod Bench
pub mod Claim
