pub mod LiveLines
pub mod LiveScript
pub mod Sayings
pub mod LiveReaderStands
pub mod LiveHelpTexts
pub mod WorkedLiveTexts
