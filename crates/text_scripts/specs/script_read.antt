pub mod Statements
pub mod Script
pub mod ScriptInPieces
pub mod Drafts
pub mod Lifted
pub mod Written
