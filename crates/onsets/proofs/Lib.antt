-- The laws that other crates cite, and those that the proofs of this one share.
pub mod Outcomes
pub mod Picks
pub mod Steps
pub mod Onsets
pub mod Marked
