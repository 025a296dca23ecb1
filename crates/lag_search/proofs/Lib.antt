-- The laws that other crates cite.
pub mod Winners
pub mod Searches
