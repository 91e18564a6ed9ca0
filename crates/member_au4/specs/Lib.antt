pub mod au4_pointer
pub mod au4_link
