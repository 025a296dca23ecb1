-- The laws that other crates cite: `line_read` and `line_written`, that what is read is exactly what is written.
pub mod Lines
