pub mod walk_parts
pub mod walk_core
pub mod Common
