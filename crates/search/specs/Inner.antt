-- What only the contracts of inner functions speak of, and of the search, which is no tool of 01.
pub mod Search
pub mod Notes
pub mod Asked
