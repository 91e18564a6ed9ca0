pub mod WordsOfCommands
pub mod GivesByTask
pub mod commands
