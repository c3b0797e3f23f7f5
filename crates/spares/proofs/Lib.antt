pub mod Laws
pub mod United
