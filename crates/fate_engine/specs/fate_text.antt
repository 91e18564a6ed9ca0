pub mod FateLineText
