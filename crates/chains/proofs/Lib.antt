-- The laws that other crates cite.
pub mod Slots
pub mod Finite
pub mod Found
mod Examples
