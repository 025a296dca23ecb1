-- A row's rises: the laws that the proofs of this crate share, and that crate flux cites.
pub mod Rises
