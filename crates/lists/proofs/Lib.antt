-- The laws that other crates cite.
pub mod Greatest
pub mod Means
pub mod Grids
pub mod Readings
