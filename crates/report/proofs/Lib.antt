-- The laws that other crates cite: `streamed_is_flux` of Streams is what is proved of rows that come one after the other.
pub mod Values
pub mod Rows
pub mod Streams
pub mod Numbers
