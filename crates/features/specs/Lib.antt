pub mod Features
pub mod Groups
