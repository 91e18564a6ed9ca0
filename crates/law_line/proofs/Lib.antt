pub mod CellSightAndLockLaws
pub mod ContainerLockAndSlipLaws
pub mod DecidedPacketAndRowLaws
pub mod ReadingVerdictLaws
pub mod WorkedLinesLaws
