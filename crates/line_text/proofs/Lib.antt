pub mod Cut
pub mod Again
pub mod Counts
pub mod HexLaws
