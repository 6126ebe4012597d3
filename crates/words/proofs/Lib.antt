-- Facts that several proofs cite, in this crate and above it.
pub mod LimbBits
mod Turns
mod Eight
