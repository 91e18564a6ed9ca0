pub mod Square
pub mod GatheredRow
pub mod MemberPayloads
pub mod Spread
pub mod RepeatedRow
