-- What a reader must believe of this crate; each file uses only those above it.
pub mod Value
pub mod Kind
