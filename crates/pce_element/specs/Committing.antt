-- A solved job that is answered.
use Rattle.std.specs.Prelude.{◌≡◌, ℕ, nat_eq, List, length, Option, Some, None, IfSome}
use Rattle.std.specs.Map.{lookup}
use Rattle.pce_common.specs.plant_model.Types.{Held, Best, Branch}
use Rattle.border_costs.specs.Solutions.{Solution}
use Rattle.pce_common.specs.plant_model.Element.{Item, Row, Stage, Taken, Waits, Ready}
use Rattle.pce_common.specs.plant_model.Plant.{Pin, Segment}
use Rattle.pce_element.specs.Answering.{AreOf, commit_row}
use Rattle.pce_element.specs.Jobs.{job_at}
use Rattle.pce_element.specs.Seen.{Seen}
use Rattle.pce_element.specs.declared.answering.Answered.{Answered}

-- the solved job is that of the request of its number, where that one is ready
abbrev pub IsOwnJob : Seen Pin Segment → Solution → Type 0
IsOwnJob s x = IfSome (job_at s x.ask.number) (λ w. (x.ask ≡ w.ask) × (x.topology ≡ w.topology))

-- a key stands for the own part of a way
abbrev pub own_part : Best → Segment
own_part b = b.segment

-- the change and the answer of a request that is ready
abbrev pub commit_solved : Seen Pin Segment → Solution → ℕ → Row Pin → List Branch → Taken Pin Segment
commit_solved s x now h down = commit_row own_part s x.rows.source_known x.rows.target_known x.rows.best now h down

abbrev pub commit_stage : Seen Pin Segment → Solution → ℕ → Row Pin → Stage → Option (Taken Pin Segment)
commit_stage s x now h (Waits on id) = None
commit_stage s x now h (Ready down) = Some (commit_solved s x now h down)

abbrev pub commit_held : Seen Pin Segment → Solution → ℕ → ℕ → Option (Held (Item Pin)) → Option (Taken Pin Segment)
commit_held s x now number None = None
commit_held s x now number (Some held) = commit_stage s x now (number, held) held.item.stage

-- what a solved job changes, and the answer; nothing where its request can't be solved
abbrev pub committed : Seen Pin Segment → Solution → ℕ → Option (Taken Pin Segment)
committed s x now = commit_held s x now x.ask.number (lookup (nat_eq x.ask.number) s.losing.element.pending.rows)

pub record AnswersFor (s : Seen Pin Segment) (x : Solution) (now : ℕ) (a : Answered Segment) : Type 0 where
  pub taken : Taken Pin Segment
  pub is : committed s x now ≡ Some taken
  pub are : AreOf s x.ask.number now taken a
  pub one : length taken.outputs ≡ 1
