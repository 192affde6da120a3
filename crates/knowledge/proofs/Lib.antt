-- Laws of the definitions, which the proofs of this crate and of the crates above cite.
pub mod RelationLaws
pub mod WindowLaws
pub mod HoldLaws
pub mod Agreement
pub mod Monotone
pub mod HybridRuns
pub mod Model
pub mod Conclusions
pub mod PinRules
