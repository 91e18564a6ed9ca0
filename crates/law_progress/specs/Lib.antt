pub mod Progress
pub mod WorkedPlans
pub mod AskedOfLines
