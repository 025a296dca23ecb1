-- The laws that other crates cite.
pub mod Tests
pub mod Firsts
pub mod Slabs
pub mod Tabs
pub mod Everys
pub mod Ascents
pub mod Overs
pub mod Windows
pub mod Sums
pub mod Outcomes
