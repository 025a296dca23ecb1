-- The laws that other crates cite, and what the proofs of this one share.
mod Tables
mod Examples
pub mod Weights
