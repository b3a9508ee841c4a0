-- Callers read Causes, Streams, Stores, Folders, Moments, Heeding and Opening. Memory, Time and Links give the state of the forms in memory and of the system, Sockets that of the real sockets.
pub mod Causes
pub mod Streams
pub mod Whole
pub mod Stores
pub mod Memory
pub mod Time
pub mod Moments
pub mod Folders
pub mod Heeding
pub mod Opening
pub mod Links
pub mod Sockets
