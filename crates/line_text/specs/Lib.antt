-- for readers
pub mod Lines
pub mod Words
pub mod Spelling
pub mod Hexadecimal
