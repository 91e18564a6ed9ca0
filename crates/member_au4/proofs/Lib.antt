pub mod LinkDraftAndActionLaws
pub mod NumberedVcCountsLaws
pub mod PointerSourceAndSinkLaws
pub mod PointerWordLaws
pub mod SinkTakeGivesSteps
pub mod SourceSendSteps
pub mod VcsOfStreamPartLaws
