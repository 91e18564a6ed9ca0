pub mod Exchange
pub mod TableFields
