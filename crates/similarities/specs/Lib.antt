pub mod Similarity
pub mod Lanes
