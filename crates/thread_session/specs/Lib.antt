pub mod session_parts
pub mod session_run
