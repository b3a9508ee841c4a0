-- for readers
pub mod Lines
pub mod Replies
pub mod Stops
