-- The laws that the proofs of this crate share.
mod Lines
