-- The laws that other crates cite: values without -0 and their median, distances that don't see a zero's sign, the next sorted window.
pub mod Plains
pub mod Distances
pub mod Spreads
pub mod Slides
