-- The order in which a member's jobs get their turns: by those who asked, and those of one asker by their numbers.
use Rattle.std.specs.Prelude.{◌≡◌, ◌⊎◌, ◌<◌, ◌+◌, ◌*◌, ℕ, Bool, List, Option, Some, None, map, filter, cond, Contains}
use Rattle.std.specs.List.{AllByRecursion}
use Rattle.plant_model.specs.Types.{As, Held, Peer, Outside, Inner}
use Rattle.plant_model.specs.Element as element
use Rattle.plant_model.specs.Element.{Item}
use Rattle.plant_model.specs.Parent as parent
use Rattle.plant_model.specs.State.{State}
use Rattle.plant_text.specs.Names.{parent_as, same_as}
use Rattle.pce_common.specs.declared.rounds.AskedJob.{AskedJob}
use Rattle.pce_common.specs.declared.rounds.Behind.{Behind}
use Rattle.pce_common.specs.declared.rounds.Behind.TheVariants.{Nobody, Asker, Job}

-- ---- the order

-- Where a peer stands among those who may ask: outside peers at the even places, elements at the odd ones.
abbrev pub place_of : Peer → ℕ
place_of (Outside i) = 2 * i
place_of (Inner d) = 2 * d.0 + 1

abbrev pub Precedes : AskedJob → AskedJob → Type 0
Precedes one other = (place_of one.asker < place_of other.asker) ⊎ ((place_of one.asker ≡ place_of other.asker) × (one.number < other.number))

abbrev pub IsBehind : Behind → AskedJob → Type 0
IsBehind Nobody job = Unit {0}
IsBehind (Asker peer) job = place_of peer < place_of job.asker
IsBehind (Job before) job = Precedes before job

-- the first of the jobs that stand behind that place
pub record IsFirst (behind : Behind) (jobs : List AskedJob) (job : AskedJob) : Type 0 where
  pub among : Contains jobs job
  pub is_behind : IsBehind behind job
  pub first : AllByRecursion (λ (other : AskedJob). IsBehind behind other → Precedes other job → ⊥) jobs

-- it is that one, or there is none
abbrev pub IsNext : Behind → List AskedJob → Option AskedJob → Type 0
IsNext behind jobs (Some job) = IsFirst behind jobs job
IsNext behind jobs None = AllByRecursion (λ (other : AskedJob). IsBehind behind other → ⊥) jobs

-- ---- the jobs of a member

abbrev pub jobs_by : {T : Type 0} → (T → Bool) → List (ℕ × Held T) → List AskedJob
jobs_by ready rows = map (λ row. record { asker = row.1.key.peer; number = row.0 }) (filter (λ row. ready row.1.item) rows)

-- it can be solved, by its stage
abbrev pub is_solvable : {P : Type 0} → Item P → Bool
is_solvable item = element.is_ready item.stage

-- those that can be solved
abbrev pub asked_jobs : {P : Type 0} {S : Type 0} → As → State P S → List AskedJob
asked_jobs d s = cond (same_as d parent_as) (jobs_by parent.is_ready s.parent.pending.rows) (jobs_by is_solvable (s.elements d).pending.rows)
