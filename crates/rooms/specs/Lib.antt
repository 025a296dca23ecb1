pub mod Rooms
pub mod Enough
pub mod Inner
