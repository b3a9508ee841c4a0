pub mod MoveLemmas
pub mod OrderLemmas
mod QuietLemmas
