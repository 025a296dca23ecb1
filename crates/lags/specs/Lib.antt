pub mod Lags
pub mod Pairs
