pub mod Curves
