-- Facts that several proofs of this crate cite.
pub mod Fronts
pub mod Modulo
pub mod Reading
pub mod ReadBack
