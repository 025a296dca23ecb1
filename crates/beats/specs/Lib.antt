pub mod Envelopes
pub mod Scores
pub mod Grids
pub mod Inner
