pub mod Flat
mod Tables
