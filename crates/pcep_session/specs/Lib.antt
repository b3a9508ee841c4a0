-- for readers
pub mod Table
pub mod Quiet
pub mod Reports
pub mod Order
-- inner
pub mod Listed
