pub mod HeldRows
pub mod HeldPlaces
pub mod Scans
pub mod WayLemmas
pub mod RoundLemmas
pub mod WaiterLemmas
-- handed on from below
pub use Rattle.plant_model.proofs as plant_model
