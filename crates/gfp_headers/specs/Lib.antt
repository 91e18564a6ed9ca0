pub mod TypeField
