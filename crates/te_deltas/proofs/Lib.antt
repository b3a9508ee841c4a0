pub mod Names
pub mod SlotLemmas
pub mod GatherLemmas
pub mod Listing
pub mod Apart
pub mod Turns
pub mod SeenLemmas
pub mod BlameLemmas
