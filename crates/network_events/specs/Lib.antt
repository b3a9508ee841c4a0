-- for readers
pub mod Accounts
pub mod Standing
pub mod Telling
pub mod Laws
pub mod Rooms
pub mod Giving
pub mod Passing
pub mod Stepping
pub mod Breaking
pub mod Peers
pub mod Acting
pub mod Turns
pub mod Roomy
pub mod Happening
pub mod Using
pub mod Answering
pub mod Whole
pub mod Moving
-- re-exported from below
pub use Rattle.pce_common.specs as pce_common
pub use Rattle.pce_common.specs.plant_model
pub use Rattle.network_links.specs as network_links
