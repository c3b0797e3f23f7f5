pub mod Class
pub mod Rule
pub mod Operation
pub mod Sets
pub mod Members
pub mod Tables
pub mod Gates
pub mod Lookup
