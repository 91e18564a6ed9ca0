pub mod script_read
pub mod script_text
pub mod make_load
pub mod rate_load
