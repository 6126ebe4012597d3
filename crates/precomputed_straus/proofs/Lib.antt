mod Asked
mod DoneTables
mod MixedRows
mod DoneMixed
pub mod StaticPairs
