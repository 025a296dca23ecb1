-- The laws that other crates cite: `cue_read` and `cue_written`, that what is read is exactly what is written.
pub mod Runs
pub mod Chunks
pub mod Calls
pub mod Frames
