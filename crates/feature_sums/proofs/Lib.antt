-- The laws that other crates cite.
pub mod Signs
pub mod Gathered
pub mod Steps
