-- The laws that other crates cite.
pub mod Winners
pub mod Rankings
pub mod Accepts
