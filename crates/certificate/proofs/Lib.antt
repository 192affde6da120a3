-- Laws of the definitions, which the proofs of this crate and of the crates above cite.
pub mod LayoutLaws
pub mod ReadingLaws
pub mod RoomLaws
pub mod WrittenLaws
