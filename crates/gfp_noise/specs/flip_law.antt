pub mod SingleFlip
pub mod FlippedStream
pub mod FlipPlaces
