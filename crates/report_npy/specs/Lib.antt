pub mod Header
pub mod Values
