pub mod CarriesHereLaws
pub mod LinesWithPostsLaws
pub mod OpenedLineAndGroupLaws
pub mod ReceiveRingSlotLaws
pub mod RungBellLaws
pub mod SessionEndByScriptLaws
pub mod SessionRingEndsAndSinkRunLaws
pub mod WorkerShareAndPairListLaws
