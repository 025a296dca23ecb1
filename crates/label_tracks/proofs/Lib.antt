-- The laws that other crates cite: `labels_read` and `labels_written`, that what is read is exactly what is written.
pub mod Tracks
pub mod Frames
