pub mod walk_frames
pub mod walk_fates
pub mod walk_gfp
