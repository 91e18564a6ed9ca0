pub mod PairReportRowsLaws
pub mod OneWayScriptLaws
