-- What a reader must believe of this crate, each file using only those above it; last Turns, which only the contracts of the functions
-- that make the lines speak of.
pub mod Lines
pub mod Report
pub mod Turns
