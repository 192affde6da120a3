-- What the C interface says: faults and answers as numbers.
pub mod Numbers
