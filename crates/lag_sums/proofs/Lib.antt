-- The laws that other crates cite.
pub mod Products
pub mod Lanes
