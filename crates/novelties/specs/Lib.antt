pub mod Novelty
pub mod Lanes
