pub mod Methods
pub mod Lent
pub mod Left
