pub mod Text
pub mod Appended
pub mod Lines
pub mod Placed
