-- for readers
pub mod History
pub mod Views
pub mod Seats
pub mod Counter
-- inner
pub mod Rule
pub mod Steps
