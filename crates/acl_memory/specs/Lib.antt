pub mod Holding
pub mod Memory
pub mod MemoryFiles
pub mod MemorySinks
pub mod MemoryTrees
pub mod SureObjects
