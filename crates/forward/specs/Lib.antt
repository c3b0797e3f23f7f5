pub mod Forward
pub mod Known
