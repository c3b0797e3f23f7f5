pub mod Changes
pub mod Refusals
pub mod Formed
pub mod Proper
pub mod Lent
