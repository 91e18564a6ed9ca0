pub mod EndsOfRing
pub mod WorkerLineCalls
pub mod LineAlarms
pub mod WorkerOfLine
