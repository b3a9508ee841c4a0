-- What outside peers are handed, what they read of it, and what is taken from them.
pub mod Growing
pub mod OutletEvents
pub mod OutletRuns
pub mod Putting
pub mod Streams
pub mod Reading
pub mod Answering
pub mod Fading
pub mod Frames
pub mod InletEvents
pub mod InletRuns
