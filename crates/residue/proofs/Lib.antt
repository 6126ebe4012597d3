pub mod Reduction
pub mod Members
pub mod Laws
