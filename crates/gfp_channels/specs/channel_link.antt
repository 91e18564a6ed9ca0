pub mod ChannelTextLines
pub mod Helps
pub mod Plan
pub mod ChannelReportText
pub mod Run
pub mod FramesOfPlan
