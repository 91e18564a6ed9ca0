pub mod LinkTextLines
pub mod Helps
pub mod Link
pub mod Vcs
pub mod VcText
pub mod LinkReportText
pub mod Carried
