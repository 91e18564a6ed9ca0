pub mod Table
pub mod Source
pub mod Course
pub mod SessionReturns
pub mod Client
pub mod Accepted
pub mod Journal
