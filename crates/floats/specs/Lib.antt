pub mod TotalOrder
pub mod Wholes
pub mod Logs
pub mod Exps
