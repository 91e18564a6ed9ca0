pub mod Start
pub mod FaultCounts
pub mod Transfer
pub mod Memory
