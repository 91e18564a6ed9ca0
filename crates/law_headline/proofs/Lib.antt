pub mod ReportedFramesLaws
pub mod ScriptTextHeadlineLaws
