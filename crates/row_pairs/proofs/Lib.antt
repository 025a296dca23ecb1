-- The laws that other crates cite, and what the proofs of this one share.
mod Examples
pub mod Slots
pub mod Fine
pub mod Local
