pub mod Source
pub mod Found
pub mod Lent
pub mod Codes
pub mod Cells
pub mod Visits
