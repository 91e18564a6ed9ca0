pub mod LineWorkerAlarmsLaws
pub mod SameRingEndsLaws
