-- for readers
pub mod Asks
pub mod Solutions
pub mod Tables
pub mod Composing
pub mod OneAnswer
-- inner
pub mod Fields
pub mod Ways
