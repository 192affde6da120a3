-- Laws of the definitions, which the proofs of this crate and of the crates above cite.
pub mod QuestionLaws
pub mod FirstLaws
pub mod ClosingLaws
pub mod NotesLaws
pub mod WalkLaws
pub mod RuledOutLaws
pub mod SmallLaws
pub mod TestLaws
pub mod SearchLaws
