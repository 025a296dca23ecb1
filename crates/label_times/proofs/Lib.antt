-- The laws that other crates cite: `time_back`, `time_none`, `time_is`, that a time names at most one listed frame, and which.
pub mod Frames
