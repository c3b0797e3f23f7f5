pub mod Core
pub mod Lent
