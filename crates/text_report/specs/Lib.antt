pub mod TextCursor
pub mod ReportLines
