pub mod Supposed
