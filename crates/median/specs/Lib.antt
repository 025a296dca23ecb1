pub mod Median
pub mod Ranks
pub mod Heaps
pub mod Answers
pub mod Choice
