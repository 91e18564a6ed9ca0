pub mod TakenAndGiven
pub mod RowsInReceiver
pub mod Core
pub mod SessionTells
