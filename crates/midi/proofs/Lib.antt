-- The laws that other crates cite: Tracks has the theorems of the request.
pub mod Tracks
