pub mod LeastLemmas
pub mod ZipLemmas
pub mod BranchLaws
pub mod FirstLeast
