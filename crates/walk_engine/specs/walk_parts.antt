pub mod Ringed
pub mod Return
