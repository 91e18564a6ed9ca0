pub mod Pair
pub mod OneWay
pub mod LivePair
