pub mod gfp_linear
pub mod channel_law
pub mod channel_link
