-- The laws that other crates cite.
pub mod Eights
pub mod Extensions
pub mod PassedOver
