-- The laws of phases and of an answer's cases, which other crates may cite, and the marked number.
pub mod Phases
pub mod Greatest
pub mod BarBeats
pub mod Meters
pub mod Marks
