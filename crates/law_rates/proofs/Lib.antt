pub mod DrawLaws
pub mod LeapLaws
pub mod RateFrameLaws
pub mod RateCountLaws
