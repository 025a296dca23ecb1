pub mod File
pub mod Shapes
