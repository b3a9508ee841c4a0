pub mod Downs
pub mod Seeding
pub mod Labelling
pub mod Bests
pub mod Pairs
pub mod Picked
pub mod WaysOut
pub mod TableRows
pub mod Heads
pub mod Members
pub mod Composing
mod TablePairs
pub mod Placed
mod OneAnswer
