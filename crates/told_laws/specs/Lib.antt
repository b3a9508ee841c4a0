pub mod Telling
pub mod Saying
pub mod Playing
