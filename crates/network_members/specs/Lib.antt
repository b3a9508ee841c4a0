-- for readers
pub mod Elements
pub mod Becoming
pub mod Tiers
pub mod Current
pub mod Answering
pub mod Topologies
pub mod Loading
pub mod Blind
-- inner
pub mod TierFields
pub mod ElementFields
pub mod Ready
pub mod Fresh
pub mod Heeding
-- re-exported from below
pub use Rattle.pce_element.specs as pce_element
pub use Rattle.pce_parent.specs as pce_parent
