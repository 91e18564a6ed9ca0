pub mod failure_window
pub mod path_delay
pub mod h4_multiframe
pub mod cell_numbers
