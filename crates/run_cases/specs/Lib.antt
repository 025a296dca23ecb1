pub mod Texts
pub mod Curves
