pub mod Boundaries
pub mod Confidence
pub mod Times
pub mod Outcomes
