pub mod ControlCode
pub mod HeldPlaces
pub mod Lending
