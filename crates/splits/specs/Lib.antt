-- What a reader must believe of this crate; last Inner, which only the contracts of functions speak of that are no tool of 01.
pub mod Split
pub mod Inner
