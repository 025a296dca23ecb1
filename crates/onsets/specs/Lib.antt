pub mod Peaks
pub mod Onsets
pub mod Steps
