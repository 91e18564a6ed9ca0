pub mod SessionLines
pub mod Course
pub mod WorkedSession
