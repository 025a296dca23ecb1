-- The laws that other crates cite.
pub mod Addends
pub mod Strengths
