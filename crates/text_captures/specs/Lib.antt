pub mod capture_file
pub mod packet_trace
