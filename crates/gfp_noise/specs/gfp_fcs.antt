pub mod Encoder
pub mod Delineator
