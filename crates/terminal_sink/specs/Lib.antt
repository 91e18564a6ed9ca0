pub mod line_list
pub mod active_lines
pub mod member_watch
pub mod known_carriers
pub mod lcas_sink
pub mod marked_delineator
pub mod sink_core
