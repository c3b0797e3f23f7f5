pub mod Appending
pub mod Lengths
pub mod Placing
mod Decimal
mod Cases
