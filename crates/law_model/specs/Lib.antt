pub mod Limits
pub mod frames
pub mod packets
pub mod members
pub mod rows
pub mod source
pub mod session
pub mod Common
