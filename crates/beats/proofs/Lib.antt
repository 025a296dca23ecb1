-- The laws that other crates cite.
pub mod Links
pub mod Walks
pub mod Beatless
pub mod Steps
pub mod ScoreSizes
