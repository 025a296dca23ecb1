-- The laws that other crates cite.
pub mod Weights
pub mod CurveSizes
mod Joins
