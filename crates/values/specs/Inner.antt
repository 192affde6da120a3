-- What only definitions in the folders Inner of the crates above use, and laws.
pub mod Rewriting
