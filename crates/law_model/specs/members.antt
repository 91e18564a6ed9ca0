pub mod Damage
pub mod Path
pub mod CellVerdicts
pub mod SentAndExpected
pub mod Sign
pub mod Sight
pub mod Timers
