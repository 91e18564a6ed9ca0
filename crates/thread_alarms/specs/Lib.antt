pub mod alarm_law
pub mod alarm_log
pub mod watched_line
pub mod alarm_text
