pub mod Lists
pub mod Keeps
pub mod Turns
pub mod Crossing
pub mod Adds
