-- What a reader must believe of this crate; each file uses only those above it.
pub mod Answer
pub mod Refusal
pub mod Netlist
