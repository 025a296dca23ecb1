pub mod Downbeats
pub mod BarBeats
