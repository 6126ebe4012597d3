pub mod Chunks
pub mod Entries
pub mod Under
pub mod Walked
pub mod Slots
mod Walking
