pub mod PairTextLines
pub mod PairOfText
pub mod Faults
pub mod Pieces
pub mod Inputs
pub mod ReportsOfWays
