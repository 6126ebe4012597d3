pub mod TopByte
pub mod Passed
mod Search
