pub mod CommandOfWords
pub mod HandedWalk
pub mod DecodingSoFar
pub mod TracedWalk
pub mod TurnsLeft
pub mod ReadyWalk
pub mod commands
