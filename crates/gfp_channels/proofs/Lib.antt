pub mod BusyChannelTurnLaws
pub mod ChannelDeliveryLaws
pub mod ChannelPlanDraftLaws
pub mod CutSegmentReceptionLaws
pub mod LinearExtensionLaws
pub mod LinearStreamPlaceLaws
pub mod OfferedChannelFrameLaws
