pub mod CoreHeaderLaws
pub mod ListLaws
pub mod PacketNibblesLaws
pub mod ScrambledBitAndAreaLaws
pub mod StreamOfPiecesLaws
pub mod StreamPlacesLaws
pub mod WindowAndPathLaws
