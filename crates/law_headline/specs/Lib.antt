pub mod WalkTexts
pub mod Headline
