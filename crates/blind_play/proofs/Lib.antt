pub mod MuteLemmas
pub mod HeardLemmas
pub mod TurnLemmas
pub mod LineLemmas
pub mod SayingLemmas
pub mod ScriptLemmas
-- handed on from below
pub use Rattle.run_laws.proofs as run_laws
