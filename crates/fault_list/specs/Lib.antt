-- What a reader must believe of this crate, each file using only those above it. Inner has what only the contracts of its functions
-- speak of.
pub mod Faults
pub mod Text
pub mod Inner
