pub mod Front
pub mod Gathering
pub mod LinesOfRows
pub mod Spelling
pub mod RowSpelling
pub mod Listing
pub mod OneOrder
pub mod ReadAgain
