-- No answer of the kit rests on this crate's definitions: only the contracts of functions speak of them that are no tool of 01.
pub mod Inner
