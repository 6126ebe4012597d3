pub mod Nibbles
