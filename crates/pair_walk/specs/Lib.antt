pub mod Rounds
pub mod Headline
pub mod OneWay
