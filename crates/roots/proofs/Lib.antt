-- What other crates cite stands in Roots, and of the root of a zero in Floats.
pub mod Roots
mod Parts
mod Whole
mod Nearest
mod Unique
pub mod Floats
mod Values
mod Examples
