-- What the proofs of this crate share, and the laws that other crates cite.
pub mod Counts
