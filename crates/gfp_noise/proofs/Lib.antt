pub mod FcsOutcomeLaws
pub mod FlipPlaceAndBitLaws
pub mod FlipRemainderAndDescramblingLaws
pub mod FlippedFcsAreaLaws
pub mod FlippedFcsStreamLaws
pub mod NearHeaderLaws
pub mod NoiseDraftLaws
