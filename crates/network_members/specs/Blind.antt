-- Jobs of members without topologies, which rows from outside answer.
use Rattle.std.specs.Prelude.{◌≡◌, ◌⊎◌, ℕ, true, false, nat_eq, List, Option, Some, None, Result, Ok, Err, IfOk, OnOk, IfErr}
use Rattle.std.specs.Map.{lookup}
use Rattle.pce_common.specs.plant_model.Types.{As, NoMemory, BorderRow, Held, Best, Branch, NetworkParts}
use Rattle.plant_text.specs.Names.{same_as, parent_as}
use Rattle.pce_common.specs.plant_model.declared.outcome.Refused.{Refused}
use Rattle.pce_common.specs.plant_model.declared.outcome.Refused.TheVariants as refused
use Rattle.pce_common.specs.plant_model.declared.upper.BorderJob.{BorderJob}
use Rattle.pce_common.specs.plant_model.Blind.{Joined, Nothing}
use Rattle.pce_common.specs.plant_model.Element.{Item, Ready}
use Rattle.pce_common.specs.plant_model.Events.{has_jobs}
use Rattle.pce_common.specs.plant_model.RealWire.{wire}
use Rattle.pce_common.specs.Membership.{Membership, Replied}
use Rattle.pce_element.specs.Blind.{stands_for_nothing}
use Rattle.pce_element.specs.Plans.{Planned}
use Rattle.network_members.specs.Answering.{IsRefusedFor, ParentAnswers, solved_below}
use Rattle.network_members.specs.Tiers.{Tiers, Become, FitsIn, lost_in, members_of, next_by, sent_by}
use Rattle.network_members.specs.declared.plan.MemberPlan.{MemberPlan}
use Rattle.network_members.specs.declared.plan.MemberPlan.TheVariants as plan

-- the pin of a domain without topologies
abbrev pub nothing_first : As → Nothing
nothing_first d = tt

-- the request of an element that is ready is answered by what the rows join to
pub record ElementAnswers (n : NetworkParts) (now : ℕ) (d : As) (k : ℕ) (rows : List BorderRow) (ms : Membership Nothing Nothing) (r : Replied Nothing Nothing) : Type 0 where
  pub upper : same_as d parent_as ≡ false
  pub held : Held (Item Nothing)
  pub is_held : lookup (nat_eq k) (ms.elements d).pending.rows ≡ Some held
  pub down : List Branch
  pub ready : held.item.stage ≡ Ready down
  pub best : List Best
  pub joined : Joined wire n held.item rows down best
  pub is : r ≡ solved_below stands_for_nothing n now d (k, held) down true true best ms

abbrev pub MemberAnswers : NetworkParts → ℕ → As → ℕ → List BorderRow → Membership Nothing Nothing → Replied Nothing Nothing → Type 0
MemberAnswers n now d k rows ms r = ElementAnswers n now d k rows ms r ⊎ ((d ≡ parent_as) × ParentAnswers n k ms r)

-- a request is planned to be answered: nothing changes, and the plan is its answer
pub record Solves {W : Type 0} {D : Type 0} (d : As) (k : ℕ) (rows : List BorderRow) (now : ℕ) (old : Tiers Nothing Nothing) (result : Result (MemberPlan W Nothing Nothing D) Refused) (new : Tiers Nothing Nothing) : Type 0 where
  pub same : Become nothing_first old (members_of nothing_first old) (lost_in old) new
  pub there : OnOk result (has_jobs old.network d ≡ true)
  pub fits : IfOk result (FitsIn new)
  pub answers : IfOk result (λ plan. MemberAnswers old.network now d k rows (members_of nothing_first old) (record { members = next_by nothing_first new plan; outputs = sent_by plan }))
  pub why : IfErr result (IsRefusedFor old.network d k (members_of nothing_first old))

-- the result of an element's answer, as that of a member
abbrev pub told_below : {W : Type 0} {D : Type 0} → As → Result (Option (Planned Nothing Nothing D)) NoMemory → Result (MemberPlan W Nothing Nothing D) Refused
told_below d (Ok (Some x)) = Ok (plan.Element d x)
told_below d (Ok None) = Err refused.NoSuchJob
told_below d (Err why) = Err refused.NoMemory

-- why a job of the parent is not solved: there is none, or memory ran out
abbrev pub IsUnsolved : Option BorderJob → Refused → Type 0
IsUnsolved o refused.NoSuchJob = o ≡ None
IsUnsolved o refused.NoMemory = Unit {0}
IsUnsolved o refused.NoSuchPeer = ⊥
IsUnsolved o refused.GenerationsFull = ⊥
IsUnsolved o (refused.NotHolder holder) = ⊥
IsUnsolved o refused.NothingToCarry = ⊥
