pub mod Streams
pub mod Sessions
pub mod Calls
pub mod Written
pub mod Closed
