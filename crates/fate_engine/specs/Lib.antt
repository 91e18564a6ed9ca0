pub mod fate_law
pub mod fate_core
pub mod fate_text
pub mod Common
