pub mod MemoryDesks
