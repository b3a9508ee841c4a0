-- A job of an element without topologies, which is solved by given rows.
use Rattle.std.specs.Prelude.{◌≡◌, ℕ, true, nat_eq, List, length, Some}
use Rattle.std.specs.Map.{lookup}
use Rattle.pce_common.specs.plant_model.Types.{BorderRow, Held, Best, Branch, NetworkParts}
use Rattle.request_table.specs.Pending.{item_of}
use Rattle.pce_common.specs.plant_model.Blind.{Joined, Nothing}
use Rattle.pce_common.specs.plant_model.Element.{Item, Ready, Taken, is_ready}
use Rattle.pce_common.specs.plant_model.RealWire.{wire}
use Rattle.pce_element.specs.Answering.{AreOf, commit_row}
use Rattle.pce_element.specs.declared.answering.Answered.{Answered}
use Rattle.pce_element.specs.Seen.{Seen}

-- keys stand for nothing
abbrev pub stands_for_nothing : Best → Nothing
stands_for_nothing b = tt

-- what the rows join to, which no settings of a network decide
abbrev pub AreJoined : Item Nothing → List BorderRow → List Branch → List Best → Type 0
AreJoined i rows down best = (n : NetworkParts) → Joined wire n i rows down best

-- the request of the number is ready, and is answered by what the rows join to
pub record IsSolvedBy (s : Seen Nothing Nothing) (number : ℕ) (rows : List BorderRow) (now : ℕ) (taken : Taken Nothing Nothing) : Type 0 where
  pub held : Held (Item Nothing)
  pub is_held : lookup (nat_eq number) s.losing.element.pending.rows ≡ Some held
  pub down : List Branch
  pub ready : held.item.stage ≡ Ready down
  pub best : List Best
  pub joined : AreJoined held.item rows down best
  pub is : taken ≡ commit_row stands_for_nothing s true true best now (number, held) down
  pub one : length taken.outputs ≡ 1

-- the request of the number can't be solved
abbrev pub HasNoJob : Seen Nothing Nothing → ℕ → Type 0
HasNoJob s number = (i : Item Nothing) → item_of s.losing.element.pending number ≡ Some i → is_ready i.stage ≡ true → ⊥

-- such an answer
pub record AnswersBlindly (s : Seen Nothing Nothing) (number : ℕ) (rows : List BorderRow) (now : ℕ) (a : Answered Nothing) : Type 0 where
  pub taken : Taken Nothing Nothing
  pub is : IsSolvedBy s number rows now taken
  pub are : AreOf s number now taken a
