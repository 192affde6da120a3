-- Laws of the definitions, which the proofs of this crate and of the crates above cite.
pub mod RisingLaws
pub mod SweepLaws
pub mod ReplayedLaws
pub mod StillLaws
pub mod CountingLaws
pub mod WorkLaws
pub mod CalmLaws
pub mod KnownPinLaws
pub mod StandsLaws
pub mod OpenSets
pub mod Earlier
pub mod TrialLaws
pub mod KeptLaws
pub mod GuessLaws
pub mod BranchLaws
pub mod PartLaws
