pub mod ChannelArea
pub mod Channels
pub mod ChannelStream
