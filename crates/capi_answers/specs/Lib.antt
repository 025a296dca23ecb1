pub mod Handed
pub mod Medians
pub mod Tempos
pub mod Grids
pub mod Forms
pub mod Repairs
pub mod Tracks
