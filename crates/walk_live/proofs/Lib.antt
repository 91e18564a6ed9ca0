pub mod AnsweredWalkAndSayingLaws
pub mod ConversationAnswerLaws
pub mod LiveTalkerLaws
pub mod WalkByLinesLaws
pub mod PassRoundsLaws
pub mod SaidItemAndFailureLaws
pub mod TimedLineWritingLaws
pub mod ToldStepLaws
