-- Laws of the definitions, which the proofs of this crate cite.
pub mod LineLaws
pub mod StageLaws
pub mod TurnLaws
pub mod ReportTestLaws
pub mod ReportLaws
pub mod WorkedReport
