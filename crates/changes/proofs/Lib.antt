pub mod Laws
pub mod Refusals
pub mod Accepted
pub mod Proper
pub mod Rooms
