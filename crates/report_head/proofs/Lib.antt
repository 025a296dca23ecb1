-- The laws that the proofs of this crate share, and that the crates above cite.
pub mod Heads
