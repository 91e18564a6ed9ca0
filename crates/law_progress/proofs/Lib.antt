pub mod EventBoundAndStallCauseLaws
pub mod EventOutcomeLaws
pub mod LinePathInNumbersLaws
pub mod RisingRoundsLaws
pub mod RoundProgressAndDrainLaws
pub mod StalledEventLaws
