pub mod Delineator
pub mod Queue
pub mod Filler
