-- The laws that other crates cite, and those that the proofs of this one share.
pub mod Thresholds
mod Sliding
