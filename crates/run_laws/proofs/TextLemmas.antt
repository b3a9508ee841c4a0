-- What texts give is within the ranges that events ask for.
pub mod AddrRanges
pub mod RowRanges
pub mod ChangeRanges
pub mod FedWords
pub mod FedOctets
pub mod GivenRows
pub mod Lengths
pub mod FedLengths
pub mod GivenNetworks
pub mod FieldRanges
pub mod ModelledNetworks
