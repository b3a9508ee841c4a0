pub mod Asking
pub mod Spans
pub mod Support
pub mod Tables
