pub mod MultiframePlace
pub mod LockState
