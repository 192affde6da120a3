-- What only the contracts of functions speak of that are no tool of 01: those between crates, and inner ones.
pub mod Work
pub mod Windows
pub mod Trials
pub mod Branches
