-- for readers
pub mod Changes
pub mod Answers
pub mod ChangeText
pub mod Blame
-- inner
pub mod Gathered
pub mod Slots
