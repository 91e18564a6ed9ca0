pub mod CarryingLines
