-- The laws that other crates cite, and what the proofs of this one share.
pub mod Values
pub mod Groups
pub mod Written
pub mod Fine
