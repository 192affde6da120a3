-- What a reader must believe of this crate, each file using only those above it; last Inner, which only the contracts of functions speak
-- of that are no tool of 01.
pub mod Sweeps
pub mod Splits
pub mod Inner
