pub mod Spares
pub mod Looked
