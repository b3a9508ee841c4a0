-- The answer of solving a pair: a certificate that holds, of the chosen pair or of a cut.
use Rattle.std.specs.Prelude.{◌≤◌, ℕ, List, length}
use Rattle.dom_base.specs.declared.addr.Addr.{Addr}
use Rattle.dom_base.specs.declared.link.Link.{Link}
use Rattle.diverse_pairs.specs.declared.certificate.PairForm.{PairForm}
use Rattle.diverse_pairs.specs.declared.certificate.PairForm.TheVariants.{Paths, Cut}
use Rattle.diverse_pairs.specs.declared.verdict.PairVerdict.TheVariants.{Holds}
use Rattle.diverse_pairs.specs.Conditions.{Asked, IsShownBy, IsVerdict}
use Rattle.diverse_pairs.specs.Potentials.{HasRising, StartsAtZero}
use Rattle.diverse_pairs.specs.PairText.{CanBeTold}
use Rattle.diverse_pairs.specs.Pairs.{HasNoPair, IsLeastPair}
use Rattle.diverse_pairs.specs.Chosen.{IsChosenPair}

-- the paths are those of the chosen pair, and no pair has a smaller sum
pub record ShowsChosen (a : Asked) (first second : List Addr) : Type 0 where
  pub one : List Link
  pub other : List Link
  pub shows_one : IsShownBy a.source one first
  pub shows_other : IsShownBy a.source other second
  pub chosen : IsChosenPair a.topology a.query a.source a.target one other
  pub least : IsLeastPair a.topology a.query a.source a.target one other

-- the chosen pair, or that there is none
abbrev pub IsAnswer : Asked → PairForm → Type 0
IsAnswer a (Paths potentials first second) = ShowsChosen a first second
IsAnswer a (Cut nodes) = HasNoPair a.topology a.query a.source a.target

-- no path shows more addresses than this
abbrev pub IsShort : ℕ → PairForm → Type 0
IsShort most (Paths potentials first second) = (length first ≤ most) × (length second ≤ most)
IsShort most (Cut nodes) = Unit {0}

-- a form that holds, of the answer, and that can be written and read again
pub record IsSolved (a : Asked) (form : PairForm) : Type 0 where
  pub holds : IsVerdict a form Holds
  pub answer : IsAnswer a form
  pub rising : HasRising form
  pub least : StartsAtZero form
  pub told : CanBeTold form
  pub short : IsShort (length a.topology.nodes) form
