pub mod PointerWord
pub mod StreamPart
pub mod Source
pub mod Sink
pub mod SentFrames
pub mod SourceToSink
pub mod Worked
