-- for readers
pub mod Limits
pub mod Names
pub mod Settings
pub mod Rules
pub mod Faults
pub mod Networks
pub mod Given
pub mod Lines
pub mod OperatorLines
pub mod Sents
pub mod SettingsText
pub mod Reads
pub mod Laws
-- inner
pub mod Fields
