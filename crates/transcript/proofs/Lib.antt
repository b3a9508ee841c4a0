pub mod LineLemmas
pub mod ScriptParts
-- handed on from below
pub use Rattle.network_links.proofs as network_links
