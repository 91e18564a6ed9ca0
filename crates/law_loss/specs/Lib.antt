pub mod CarriedStream
pub mod AddedFrames
pub mod WorkedLosses
pub mod FrameKind
