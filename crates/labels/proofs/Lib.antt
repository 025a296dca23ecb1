-- The laws that other crates cite.
pub mod Written
pub mod Calls
