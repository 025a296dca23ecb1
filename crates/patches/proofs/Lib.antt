pub mod Wholes
pub mod Parts
pub mod Answers
