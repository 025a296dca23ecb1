-- The laws that other crates cite, and those that the proofs of this one share. `however_cut`, `cuts_agree` and `cuts_same` of Cuts are what is proved
-- of an input that comes in parts, `stopped_early` and `stopped_agrees` of one that is decided before it ends.
pub mod Inputs
pub mod Feeds
pub mod Cuts
