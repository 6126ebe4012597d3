-- Facts that several proofs cite, in this crate and above it.
pub mod Refusals
pub mod Waiting
