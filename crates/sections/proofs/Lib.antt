-- What other crates cite: the laws of boundaries and of the confidence, and the coincidence of outcomes. And what the proofs of this one share.
pub mod Bounds
pub mod Outcomes
pub mod Confidences
