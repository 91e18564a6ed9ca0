pub mod Numbering
pub mod Wording
pub mod StableVerdicts
pub mod WorkedLines
pub mod StableRows
pub mod SightsAsWorded
