pub mod Draws
pub mod Limits
pub mod Padded
pub mod Places
pub mod Rates
pub mod Worked
