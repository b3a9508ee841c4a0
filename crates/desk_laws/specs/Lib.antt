pub mod Closed
pub mod Connections
pub mod Written
