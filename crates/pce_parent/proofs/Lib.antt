pub mod SpotLaws
pub mod PlaceLaws
pub mod RowLaws
mod Starting
mod Relaxing
mod Passes
pub mod Steps
pub mod Leasts
mod Collecting
mod Choosing
mod Going
mod Walking
mod ScanLaws
mod Leaving
mod Gone
mod TellerLaws
mod Sends
mod Ends
mod Answering
mod RowsSaid
mod Drafts
mod Telling
