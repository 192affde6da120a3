-- Laws of the definitions, which the proofs of this crate and of the crates above cite.
pub mod PinLaws
pub mod ClockLaws
pub mod RunLaws
pub mod SimulatorLaws
pub mod RedundantLaws
pub mod Vectors
