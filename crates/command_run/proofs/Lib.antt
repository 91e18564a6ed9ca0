pub mod EndedSessionReportLaws
pub mod WatchAlarmTextLaws
