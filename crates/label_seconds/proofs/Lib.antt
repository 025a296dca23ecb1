-- The laws that other crates cite.
pub mod Padded
pub mod Seconds
