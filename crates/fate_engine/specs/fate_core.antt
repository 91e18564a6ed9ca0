pub mod FrameSides
pub mod Packets
pub mod Segments
pub mod Runs
pub mod Totals
pub mod WholeContainers
pub mod FateBySegment
