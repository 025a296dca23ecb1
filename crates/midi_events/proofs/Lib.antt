-- The laws that other crates cite.
pub mod Events
pub mod Shapes
mod Examples
