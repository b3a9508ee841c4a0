-- The paths of a sifted reply can be joined to those of an element: each hop is one that its spelling gives back.
use Rattle.std.specs.Prelude.{◌<◌, ◌≤◌, ◌^◌, ℕ, length, Option, IfSome, IsSome}
use Rattle.std.specs.List.{AllByRecursion}
use Rattle.pcep_subobjects.specs.Addresses.{IsAddr}
use Rattle.pcep_subobjects.specs.Hops.{AreWritten}
use Rattle.pcep_subobjects.specs.declared.hop.Hop.{Hop}
use Rattle.pcep_subobjects.specs.declared.hop.Hop.TheVariants.{Prefix, AsNumber, Key, Other}
use Rattle.pcep_messages.specs.declared.message.Answer.{Answer}
use Rattle.pcep_messages.specs.declared.message.Answer.TheVariants.{Paths, NoPath}
use Rattle.pcep_messages.specs.declared.message.Path.{Path}
use Rattle.pcep_messages.specs.declared.message.Reply.{Reply}
use Rattle.outside_part.specs.Sifting.{sifted}

-- the numbers of a prefix or a key are those of their types
abbrev pub IsInRange : Hop → Type 0
IsInRange (Prefix loose addr length) = IsAddr addr
IsInRange (AsNumber loose number) = Unit {0}
IsInRange (Key loose key pce) = (key < 2 ^ 16) × IsAddr pce
IsInRange (Other loose kind body) = Unit {0}

-- what holds of each path
abbrev pub EachPath : (Path → Type 0) → Answer → Type 0
EachPath P (Paths paths) = AllByRecursion P paths
EachPath P (NoPath nature vector) = Unit {0}

-- so it is with each hop of each path
abbrev pub AreInRange : Answer → Type 0
AreInRange answer = EachPath (λ p. AllByRecursion IsInRange p.hops) answer

-- hops that are read again as they are written, no more than may be, and a METRIC of a type by which paths are measured (RFC 5440, 7.8)
pub record CanBeJoined (most : ℕ) (p : Path) : Type 0 where
  pub hops : AreWritten p.hops
  pub few : length p.hops ≤ most
  pub metric : IfSome p.metric (λ m. (1 ≤ m.0) × (m.0 ≤ 3))
  pub measured : IsSome p.metric

-- ---- a law

-- Where the numbers of the hops that were told are those of their types, what is kept can be joined.
abbrev pub SiftedFits : Type 0
SiftedFits = (units : ℕ → Option ℕ) (word : ℕ → ℕ) (most : ℕ) (r : Reply) → AreInRange r.answer → EachPath (CanBeJoined most) (sifted units word most r).answer
