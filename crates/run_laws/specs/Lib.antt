-- for readers
pub mod Settling
pub mod Following
pub mod Counting
pub mod PinSteps
pub mod PinHistories
pub mod Outlets
pub mod Received
pub mod Inlets
pub mod Ranges
pub mod Sizes
pub mod Given
pub mod Settings
-- re-exported from below
pub use Rattle.plant_laws.specs as plant_laws
