pub mod realign_rows
pub mod vcat_interleave
