pub mod PairAfterEvent
pub mod ToldAndHeard
pub mod LivePairs
pub mod Ways
pub mod WayCalls
