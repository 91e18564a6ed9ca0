pub mod ScriptText
pub mod TextOuts
