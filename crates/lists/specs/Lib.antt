pub mod Means
pub mod Greatest
pub mod Grids
