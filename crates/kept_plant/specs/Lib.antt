-- for readers
pub mod Tellings
pub mod Turns
pub mod Histories
pub mod Handing
-- inner
pub mod Folding
pub mod TurnLaws
