pub mod AlarmCountLaws
pub mod AlarmsByPostAndLineLaws
pub mod LaterServedLineLaws
pub mod QueueRuleViewSteps
