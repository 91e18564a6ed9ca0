pub mod FramesOfChannel
pub mod Worked
pub mod Offers
