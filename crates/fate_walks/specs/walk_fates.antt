pub mod PacketsAndRuler
pub mod Seen
pub mod MadeWalk
