pub mod Told
pub mod Gates
