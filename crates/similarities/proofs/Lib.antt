-- The laws that other crates cite, and what the proofs of this one share.
pub mod Lanes
mod Blocks
pub mod Calls
