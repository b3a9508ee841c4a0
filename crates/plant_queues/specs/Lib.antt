-- for readers
pub mod Messages
pub mod Sents
-- inner
pub mod Fields
pub mod SaidFields
