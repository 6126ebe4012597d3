-- Facts that several proofs of this crate cite.
pub mod Ints
pub mod NibbleTurn
pub mod RadixTurn
