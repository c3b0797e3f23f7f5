pub mod Constants
pub mod Change
