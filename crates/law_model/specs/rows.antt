pub mod Carriers
pub mod GroupRows
pub mod SessionRows
pub mod SessionContainers
pub mod SessionStream
pub mod Interleave
