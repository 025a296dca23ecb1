-- The laws that other crates cite: `number_split` and `leading-decimal` of Readings are the two halves of "without needless zeros".
pub mod Texts
pub mod Decimals
pub mod Readings
pub mod Overs
pub mod Puts
mod Examples
