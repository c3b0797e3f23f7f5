pub mod Netlist
pub mod Decoded
pub mod Formed
pub mod Proper
