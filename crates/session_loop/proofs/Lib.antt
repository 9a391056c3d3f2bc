pub mod Wires
pub mod Feeds
pub mod Answering
pub mod Lines
pub mod Goings
pub mod Endings
pub mod OneEnd
