pub mod SinkStates
