pub mod Extensions
pub mod Inner
