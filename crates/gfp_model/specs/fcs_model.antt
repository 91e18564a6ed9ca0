pub mod Flips
pub mod NearHeader
pub mod Fcs
