-- The commands over one domain, each with what it writes.
pub mod Answer
pub mod Certify
pub mod Verify
pub mod PairVerify
pub mod PairCertify
pub mod Pair
