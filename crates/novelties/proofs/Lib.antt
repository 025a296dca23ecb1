-- The laws that other crates cite, and what the proofs of this one share.
mod Examples
pub mod Terms
pub mod Lanes
pub mod Calls
pub mod Local
