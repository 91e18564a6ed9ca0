pub mod SignsAsCells
pub mod Numbers
