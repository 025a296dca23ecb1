-- Repairs has demand 3's theorems, which crate promises tells on a page; the others lead to it.
pub mod Asked
pub mod Outcomes
pub mod Mended
pub mod Repairs
mod Examples
