-- The laws that other crates cite.
pub mod Lists
pub mod Follows
mod Together
