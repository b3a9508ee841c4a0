-- for readers
pub mod EventLines
