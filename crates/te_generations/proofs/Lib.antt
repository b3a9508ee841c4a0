pub mod ShelfLemmas
pub mod RunLemmas
pub mod CountLemmas
pub mod FullLemmas
