pub mod ReturnedCells
pub mod Feedback
pub mod LineInUse
pub mod LandingByStep
pub mod ComputedSessions
pub mod WorkedTimers
pub mod TimedMembers
pub mod WorkedFlaps
