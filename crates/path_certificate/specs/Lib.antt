-- for readers
pub mod Rows
pub mod Limits
pub mod Claims
pub mod Offers
pub mod RowText
pub mod Text
pub mod CertificateText
