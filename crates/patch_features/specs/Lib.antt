pub mod Features
pub mod Runs
