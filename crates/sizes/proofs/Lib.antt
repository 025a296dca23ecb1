-- The laws that other crates cite.
pub mod Numbers
pub mod Signed
pub mod Rounds
pub mod Sizes
pub mod Order
pub mod Signs
pub mod Least
pub mod Ranges
pub mod Tests
pub mod Lists
pub mod Sums
pub mod Monotone
pub mod Exact
