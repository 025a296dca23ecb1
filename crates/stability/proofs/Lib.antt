-- The laws that other crates cite.
pub mod FirstGreatest
pub mod Refusals
pub mod Promises
mod Parts
mod Shares
