-- The laws that other crates cite: `header_read` and `header_written` of Headers are the two halves of "exactly".
pub mod Headers
pub mod Endings
pub mod Patterns
pub mod Preambles
mod Examples
