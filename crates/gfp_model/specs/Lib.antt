pub mod fcs_model
pub mod linear_model
