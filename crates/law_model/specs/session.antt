pub mod Options
pub mod Leg
pub mod Scenario
pub mod Counts
pub mod Plan
pub mod ValidScript
pub mod Items
pub mod Streams
