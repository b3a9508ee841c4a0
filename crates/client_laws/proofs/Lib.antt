pub mod Lines
pub mod Telling
pub mod Asking
mod Splitting
mod Feeding
pub mod Asked
pub mod Written
pub mod Clients
mod Growing
pub mod Exchanging
mod Taking
pub mod Resting
pub mod Serving
mod OutsideStays
mod Opening
mod Words
mod Lasting
pub mod Ended
pub mod Answered
mod Givens
mod PlayedTurns
mod Onward
mod FedBytes
pub mod Rightly
pub mod Loadable
mod TableExists
pub mod DisclosedRuns
pub mod Disclosing
-- handed on from below
pub use Rattle.run_laws.proofs.plant_laws
pub use Rattle.run_laws.proofs as run_laws
