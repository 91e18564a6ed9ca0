pub mod Form
pub mod WrittenCapture
pub mod GfpInCapture
pub mod Reading
pub mod Texts
pub mod Clock
pub mod CaptureSoFar
