pub mod LinesAsNumbers
pub mod LineSums
pub mod OutageRuns
pub mod Worked
