pub mod BegunPacketNibbleLaws
pub mod PutOctetAndRowSpreadLaws
pub mod RowGatherLinesLaws
pub mod RowPartAndLaneLaws
