-- Laws of the definitions, which the proofs of this crate and of the crates above cite.
pub mod RefusalLaws
pub mod NetlistLaws
pub mod SoundLaws
pub mod LimitLaws
pub mod NumberLaws
pub mod Vectors
