-- for readers
pub mod Turns
pub mod Due
pub mod Playing
pub mod Scripts
pub mod WholeScripts
pub mod Laws
-- inner
pub mod Making
-- re-exported from below
pub use Rattle.plant_network.specs.plant_model
pub use Rattle.run_laws.specs as run_laws
