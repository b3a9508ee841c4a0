pub mod Hopping
pub mod Walking
pub mod Answering
pub mod Keeping
