-- The jobs that a network has to solve, and whose job was solved.
use Rattle.std.specs.Prelude.{◌≡◌, ℕ, nat_eq, true, false, List, Option, Some, None, Result, Ok, Err}
use Rattle.std.specs.Arc.{arc_value}
use Rattle.std.specs.Map.{lookup}
use Rattle.network_events.specs.plant_model.Types.{As, Held as Asked, Branch, Ask}
use Rattle.te_links.specs.Rows.{Rows}
use Rattle.plant_text.specs.Names.{same_as, parent_as}
use Rattle.network_events.specs.plant_model.declared.outcome.Outcome.{Outcome}
use Rattle.network_events.specs.plant_model.declared.upper.BorderJob.{BorderJob}
use Rattle.network_events.specs.plant_model.Element.{Item, Ready}
use Rattle.network_events.specs.plant_model.Events.{Answered, has_jobs, is_ready}
use Rattle.network_events.specs.plant_model.Parent as parent
use Rattle.network_events.specs.plant_model.Plant.{Pin, ask}
use Rattle.network_events.specs.plant_model.RealWire.{wire}
use Rattle.network_events.specs.plant_model.Settings.{family}
use Rattle.network_members.specs.pce_parent.declared.work.Done.{Done}
use Rattle.network_members.specs.pce_parent.declared.work.Done.TheVariants as done
use Rattle.network_members.specs.pce_parent.declared.work.Work.{Work}
use Rattle.network_members.specs.pce_parent.declared.work.Work.TheVariants as work
use Rattle.network_members.specs.Answering.{number_of}
use Rattle.network_members.specs.pce_element.pce_common.declared.refusal.Refusal.{Refusal}
use Rattle.plant_network.specs.Whole.{Whole}

-- ---- jobs

-- what a pending request of an element asks, over the topology that it pinned
pub record IsAsked (w : Whole) (d : As) (k : ℕ) (asked : Ask) (topology : Rows) : Type 0 where
  pub held : Asked (Item Pin)
  pub is_held : lookup (nat_eq k) (w.state.elements d).pending.rows ≡ Some held
  pub down : List Branch
  pub ready : held.item.stage ≡ Ready down
  pub asks : asked ≡ ask wire w.network d (k, held) down
  pub pinned : topology ≡ held.item.pin.topology

-- what a pending request of the parent asks
pub record IsAskedAbove (w : Whole) (k : ℕ) (job : BorderJob) : Type 0 where
  pub held : Asked parent.Asking
  pub is_held : lookup (nat_eq k) w.state.parent.pending.rows ≡ Some held
  pub ready : parent.is_ready held.item ≡ true
  pub asks : job ≡ parent.job_of (family w.network) (k, held)

-- the job of the request of a number, where it can be solved
abbrev pub IsWork : Whole → As → ℕ → Option Work → Type 0
IsWork w d k None = is_ready d k w.state ≡ false
IsWork w d k (Some (work.Domain j)) = (same_as d parent_as ≡ false) × IsAsked w d k j.ask (arc_value j.topology)
IsWork w d k (Some (work.Border j)) = (same_as d parent_as ≡ true) × IsAskedAbove w k j

-- a request can be solved, of an element or of the parent, where there is one: a solve of it is refused only when memory runs out
pub record CanSolve (w : Whole) (d : As) (k : ℕ) : Type 0 where
  pub has : has_jobs w.network d ≡ true
  pub ready : is_ready d k w.state ≡ true

-- ---- solved jobs

-- the job was solved
abbrev pub IsSolvedBy : Work → Done → Type 0
IsSolvedBy (work.Domain j) (done.Domain x) = (x.ask ≡ j.ask) × (x.topology ≡ arc_value j.topology)
IsSolvedBy (work.Border j) (done.Border x) = x.job ≡ j
IsSolvedBy (work.Domain j) (done.Border x) = ⊥
IsSolvedBy (work.Border j) (done.Domain x) = ⊥

-- the domain whose job it was; the parent has none of its own
abbrev pub solved_at : Done → As
solved_at (done.Domain x) = x.ask.at
solved_at (done.Border x) = parent_as

abbrev pub solved_number : Done → ℕ
solved_number = number_of

-- what was solved is the job of the request of its number, where that one can be solved
abbrev pub IsOwn : Whole → Done → Type 0
IsOwn w (done.Domain x) =
    (same_as x.ask.at parent_as ≡ false) × ((h : Asked (Item Pin)) → lookup (nat_eq x.ask.number) (w.state.elements x.ask.at).pending.rows ≡ Some h →
    (down : List Branch) → h.item.stage ≡ Ready down → (x.ask ≡ ask wire w.network x.ask.at (x.ask.number, h) down) × (x.topology ≡ h.item.pin.topology))
IsOwn w (done.Border x) =
    (h : Asked parent.Asking) → lookup (nat_eq x.job.number) w.state.parent.pending.rows ≡ Some h → parent.is_ready h.item ≡ true →
    x.job ≡ parent.job_of (family w.network) (x.job.number, h)

-- ---- what is told of them

-- the answer of the event, where why a job is not answered is its refusal
abbrev pub told : Result Outcome (Refusal Done) → Answered
told (Ok o) = Ok o
told (Err r) = Err r.why
