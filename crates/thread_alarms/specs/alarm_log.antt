pub mod Alarms
pub mod Views
pub mod Rule
pub mod Posts
pub mod Listens
pub mod Logs
