pub mod FrameEnds
pub mod Bucket
pub mod Twins
pub mod WorkedServiceLegs
pub mod RepeatedTurns
pub mod KeptFates
pub mod ClockedWalk
pub mod cost_of_failures
