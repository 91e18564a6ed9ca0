pub mod flip_law
pub mod gfp_fcs
pub mod noise_link
