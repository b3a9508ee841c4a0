-- Jobs of elements.
use Rattle.std.specs.Prelude.{ℕ, List, [], ◌∷◌, ◌++◌, Option, Some, None}
use Rattle.pce_common.specs.plant_model.Types.{As}
use Rattle.pce_common.specs.plant_model.Element.{ready_numbers}
use Rattle.pce_common.specs.plant_model.Events.{jobs_at}
use Rattle.pce_common.specs.plant_model.Plant.{Pin, Segment}
use Rattle.pce_common.specs.Rounds.{is_solvable, jobs_by}
use Rattle.pce_common.specs.declared.rounds.AskedJob.{AskedJob}
use Rattle.pce_element.specs.Seen.{Seen}
use Rattle.pce_element.specs.Jobs.{Work, job_at}
use Rattle.network_members.specs.Elements.{own_of}

-- those that can be solved, by the order of the elements and then by their numbers
abbrev pub jobs_in : {P : Type 0} {S : Type 0} → List (Seen P S) → List (As × ℕ)
jobs_in [] = []
jobs_in (e ∷ es) = jobs_at (own_of e) (ready_numbers e.losing.element.pending.rows) ++ jobs_in es

-- those of one element; where there is none, there is no job
abbrev pub asked_in : {P : Type 0} {S : Type 0} → Option (Seen P S) → List AskedJob
asked_in None = []
asked_in (Some e) = jobs_by is_solvable e.losing.element.pending.rows

-- what is asked, where there is such an element and its request can be solved
abbrev pub work_in : ℕ → Option (Seen Pin Segment) → Option Work
work_in k None = None
work_in k (Some e) = job_at e k
