pub mod lcas_source
pub mod source_core
