pub mod Folds
pub mod Tells
pub mod Handing
pub mod Crossing
