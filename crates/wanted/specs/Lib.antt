pub mod Wanted
pub mod Sets
