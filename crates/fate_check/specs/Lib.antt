pub mod UsedLines
pub mod IdleWindows
pub mod EarlyFrames
pub mod CheckText
pub mod OtherFailures
pub mod Worked
