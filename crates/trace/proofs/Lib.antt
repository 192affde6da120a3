-- Laws of the definitions, which the proofs of this crate and of the crates above cite.
pub mod TraceAgreement
pub mod TraceLaws
pub mod TouchedLaws
pub mod TraceMonotone
pub mod TraceSoundness
pub mod NodeLaws
