pub mod Received
pub mod ComputedRows
