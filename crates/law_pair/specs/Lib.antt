pub mod Pair
pub mod OtherTelling
pub mod PairCounts
pub mod PairNeverStuck
pub mod PairWalk
pub mod WorkedPairScripts
pub mod WorkedPairCounts
pub mod Common
