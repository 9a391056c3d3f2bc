pub mod Wires
pub mod Prints
pub mod Hearing
pub mod FileLines
pub mod Answering
pub mod Talking
pub mod Conversing
pub mod NewReplica
