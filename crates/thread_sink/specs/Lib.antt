pub mod Told
pub mod ReceivedByRings
pub mod SinkParts
pub mod Step
pub mod WorkerOfSink
