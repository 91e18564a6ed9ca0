pub mod NibbleCheckLaws
pub mod CellsInStepLaws
