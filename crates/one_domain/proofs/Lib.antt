pub mod OneSeed
pub mod Shown
pub mod Sizes
pub mod OneReply
