pub mod Finite
pub mod Laws
pub mod SetLaws
pub mod Listed
pub mod Unions
pub mod Places
pub mod Gates
