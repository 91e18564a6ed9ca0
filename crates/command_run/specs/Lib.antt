pub mod Run
pub mod Watch
pub mod Commands
pub mod HandedSession
