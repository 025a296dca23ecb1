pub mod Rounded
pub mod Limits
pub mod Refusals
pub mod Lists
pub mod Outcomes
