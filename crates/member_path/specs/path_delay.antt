pub mod Carry
pub mod CallsOnDelayedLine
