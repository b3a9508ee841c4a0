-- what a reader needs
pub mod Domain
pub mod Replies
pub mod Certified
pub mod Once
