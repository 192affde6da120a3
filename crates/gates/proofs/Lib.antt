-- Laws of the definitions, which the proofs of this crate and of the crates above cite.
pub mod ValueLaws
pub mod KindLaws
pub mod LimitLaws
pub mod GateLaws
pub mod RefinementLaws
