pub mod Cut
pub mod WordsOfLine
pub mod Fields
pub mod LineFaults
pub mod Language
pub mod FirstFault
pub mod LanguageTable
