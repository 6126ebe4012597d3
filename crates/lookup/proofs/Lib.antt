pub mod ReadBack
pub mod RadixSums
mod Lookups
