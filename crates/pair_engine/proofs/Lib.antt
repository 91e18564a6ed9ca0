pub mod FirstDueItemLaws
pub mod LivePairLaws
pub mod LiveWayLaws
pub mod PairEventAndRoundLaws
pub mod PairTickAndToldPacketLaws
pub mod ShownCellLaws
pub mod TakenRowAndHeardPacketLaws
