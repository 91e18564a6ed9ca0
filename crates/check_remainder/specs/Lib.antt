pub mod Bits
pub mod Remainder
pub mod DivisionTable
pub mod BitCount
