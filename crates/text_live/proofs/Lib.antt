pub mod LiveCourseAndItemLaws
pub mod LiveReaderStateLaws
pub mod LinesBehindLaws
pub mod LiveScriptSayingsLaws
