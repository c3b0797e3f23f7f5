pub mod Verdicts
pub mod Refusals
pub mod Walks
pub mod Cones
pub mod Demands
