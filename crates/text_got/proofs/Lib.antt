pub mod ToldTextGrowthLaws
pub mod WaitingTextInBlockLaws
