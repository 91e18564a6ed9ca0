pub mod CarriedInRows
pub mod LastRowOfFrame
