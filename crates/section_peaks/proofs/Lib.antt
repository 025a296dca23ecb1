-- What other crates cite, and what the proofs of this one share.
mod Walks
pub mod Cuts
mod Choices
