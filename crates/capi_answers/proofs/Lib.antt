-- How an answer is handed over.
pub mod Hands
