pub mod Readers
pub mod Sums
