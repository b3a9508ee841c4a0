-- What the clock of a server counts.
pub mod Awake
