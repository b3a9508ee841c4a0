pub mod SettlingLemmas
pub mod OctetLemmas
pub mod PinLemmas
pub mod PeerLemmas
pub mod TextLemmas
-- handed on from below
pub use Rattle.plant_laws.proofs as plant_laws
