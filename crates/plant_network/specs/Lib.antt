-- for readers
pub mod Held
pub mod Blind
pub mod Whole
pub mod Topologies
pub mod Jobs
pub mod Current
pub mod Turns
pub mod Rounds
pub mod Histories
pub mod Beginning
pub mod Due
pub mod DueLaws
-- inner
pub mod TurnLaws
-- handed on from below
pub use Rattle.network_members.specs.pce_element
pub use Rattle.network_members.specs.pce_parent
pub use Rattle.network_events.specs as network_events
pub use Rattle.network_members.specs as network_members
pub use Rattle.plant_laws.specs as plant_laws
pub use Rattle.network_events.specs.pce_common
pub use Rattle.network_events.specs.plant_model
pub use Rattle.network_events.specs.network_links
