pub mod BareListLaws
pub mod InboxReturnCellLaws
pub mod ItemPlaceAndHeldItemLaws
pub mod LandingLegItemLaws
pub mod RefusalCodeLaws
pub mod RefusalOrderAndNextItemLaws
