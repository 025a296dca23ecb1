pub mod Input
pub mod Stream
