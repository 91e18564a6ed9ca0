pub mod CommandNumberLaws
pub mod H4TextAndPacketsLaws
pub mod HandedWalkAndTrueStartLaws
pub mod ServiceBesideFatesLaws
pub mod StreamSizeLaws
pub mod TurnsLeftLaws
pub mod WalkCaptureAndFrameSumLaws
pub mod WalkTraceAndEventCountLaws
