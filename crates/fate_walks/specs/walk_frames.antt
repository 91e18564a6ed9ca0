pub mod StreamInTicks
pub mod ItemCursor
