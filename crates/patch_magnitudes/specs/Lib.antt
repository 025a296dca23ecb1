pub mod Tracks
pub mod Magnitudes
pub mod Runs
