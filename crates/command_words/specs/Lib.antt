pub mod CommandLineWords
pub mod Parser
