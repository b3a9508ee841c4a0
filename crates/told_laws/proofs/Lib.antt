pub mod Waiting
pub mod Idling
pub mod Telling
pub mod Saying
pub mod Playing
