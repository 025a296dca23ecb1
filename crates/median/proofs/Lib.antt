-- What other crates cite: the entry of a rank and counting, exchanges, where a median lies, the marked number, the coincidence of outcomes,
-- comparisons of floats as comparisons of keys.
pub mod Ranks
pub mod Swaps
pub mod Medians
pub mod Marked
pub mod Outcomes
mod Heaps
pub mod Absolutes
mod Lent
mod Told
pub mod Levels
pub mod Choosing
