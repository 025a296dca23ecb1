-- The laws that other crates cite.
pub mod Searches
pub mod Ranges
pub mod Tenth
pub mod OpenBounds
