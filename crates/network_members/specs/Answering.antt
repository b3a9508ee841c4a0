-- Jobs of members, and solved ones that a member answers.
use Rattle.std.specs.Prelude.{◌≡◌, ◌⊎◌, ℕ, Bool, true, false, cond, nat_eq, length, All, List, Option, Some, None, Result, IfSome, IfOk, OnOk, IfErr}
use Rattle.std.specs.Map.{lookup}
use Rattle.std.specs.Option.{option_map}
use Rattle.pce_common.specs.plant_model.Types.{As, Held, Best, Branch, NetworkParts}
use Rattle.border_costs.specs.declared.answer.Answer.{Answer}
use Rattle.border_costs.specs.Solutions.{AreRows, Solution}
use Rattle.plant_text.specs.Names.{same_as, parent_as}
use Rattle.pce_common.specs.plant_model.declared.outcome.Refused.{Refused}
use Rattle.pce_common.specs.plant_model.declared.outcome.Refused.TheVariants as refused
use Rattle.pce_common.specs.plant_model.declared.upper.BorderJob.{BorderJob}
use Rattle.pce_common.specs.plant_model.BorderGraph.{Found, SolvesBorder}
use Rattle.pce_common.specs.plant_model.Element.{Item, Ready, Row}
use Rattle.pce_common.specs.plant_model.Events.{has_jobs, is_ready_asking, is_ready_row}
use Rattle.pce_common.specs.plant_model.Parent as parent
use Rattle.pce_common.specs.plant_model.Plant.{Pin, Segment, ask, first_pin}
use Rattle.pce_common.specs.plant_model.RealWire.{wire}
use Rattle.pce_common.specs.plant_model.Settings.{family, place}
use Rattle.pce_common.specs.plant_model.Solving.{commit, job_found}
use Rattle.pce_common.specs.Membership.{Membership, Replied, with_element, with_parent}
use Rattle.pce_element.specs.Committing.{IsOwnJob, own_part}
use Rattle.pce_element.specs.Seen.{Seen}
use Rattle.pce_element.specs.pce_common.Refusals.{IsWhyNot}
use Rattle.pce_element.specs.pce_common.declared.refusal.Refusal.{Refusal}
use Rattle.pce_element.specs.Jobs as element
use Rattle.pce_parent.specs.Seen.{job_when}
use Rattle.pce_parent.specs.Solution.{IsWeighed}
use Rattle.pce_parent.specs.declared.work.Done.{Done}
use Rattle.pce_parent.specs.declared.work.Done.TheVariants as done
use Rattle.pce_parent.specs.declared.work.Work.{Work}
use Rattle.pce_parent.specs.declared.work.Work.TheVariants as work
use Rattle.network_members.specs.Elements.{at_domain}
use Rattle.network_members.specs.Tiers.{Tiers, Become, FitsIn, lost_in, members_of, next_by, sent_by}
use Rattle.network_members.specs.declared.plan.MemberPlan.{MemberPlan}
use Rattle.network_members.specs.declared.plan.MemberPlan.TheVariants as plan

module _ {P : Type 0} {S : Type 0} where
  -- the job of a request of the parent, where it can be solved
  abbrev pub border_job : Tiers P S → ℕ → Option BorderJob
  border_job t k = job_when (family t.network) k (lookup (nat_eq k) t.parent.losing.parent.pending.rows)

  abbrev pub is_ready_at : As → ℕ → Membership P S → Bool
  is_ready_at d k ms =
      cond (same_as d parent_as) (is_ready_asking (lookup (nat_eq k) ms.parent.pending.rows)) (is_ready_row (lookup (nat_eq k) (ms.elements d).pending.rows))

  -- the answer to a request of an element, and to one of the parent
  abbrev pub solved_below : (Best → S) → NetworkParts → ℕ → As → Row P → List Branch → Bool → Bool → List Best → Membership P S → Replied P S
  solved_below stands n now d h down source_known target_known best ms =
      let r = commit wire (place n d) h down now stands (job_found source_known target_known best) (ms.elements d) in
      record { members = with_element d r.element ms; outputs = r.outputs }

  abbrev pub solved_above : parent.AskingRow → Option Found → Membership P S → Replied P S
  solved_above h a ms =
      let r = parent.commit wire h a ms.parent in
      record { members = with_parent r.parent ms; outputs = r.outputs }

  -- the request of the parent that is ready is answered by what solves its job
  pub record ParentAnswers (n : NetworkParts) (k : ℕ) (ms : Membership P S) (r : Replied P S) : Type 0 where
    pub held : Held parent.Asking
    pub is_held : lookup (nat_eq k) ms.parent.pending.rows ≡ Some held
    pub ready : parent.is_ready held.item ≡ true
    pub answer : Option Found
    pub solves : SolvesBorder (parent.job_of (family n) (k, held)) answer
    pub is : r ≡ solved_above (k, held) answer ms

  -- why a job is not answered
  abbrev pub IsRefusedFor : NetworkParts → As → ℕ → Membership P S → Refused → Type 0
  IsRefusedFor n d k ms refused.NoSuchPeer = has_jobs n d ≡ false
  IsRefusedFor n d k ms refused.NoSuchJob = (has_jobs n d ≡ true) × (is_ready_at d k ms ≡ false)
  IsRefusedFor n d k ms refused.NoMemory = Unit {0}
  IsRefusedFor n d k ms refused.GenerationsFull = ⊥
  IsRefusedFor n d k ms (refused.NotHolder holder) = ⊥
  IsRefusedFor n d k ms refused.NothingToCarry = ⊥

-- ---- jobs with topologies

-- the job of an element's request, or of the parent's
abbrev pub IsElementWork : Option element.Work → Option Work → Type 0
IsElementWork o None = o ≡ None
IsElementWork o (Some (work.Domain j)) = o ≡ Some (element.work_of j)
IsElementWork o (Some (work.Border j)) = ⊥

abbrev pub IsParentWork : Option BorderJob → Option Work → Type 0
IsParentWork o None = o ≡ None
IsParentWork o (Some (work.Domain j)) = ⊥
IsParentWork o (Some (work.Border j)) = o ≡ Some j

-- the links of a job of the parent have the metrics of a topology's
abbrev pub IsWeighedWork : Work → Type 0
IsWeighedWork (work.Domain j) = Unit {0}
IsWeighedWork (work.Border j) = All IsWeighed j.links

-- ---- solved jobs

abbrev pub number_of : Done → ℕ
number_of (done.Domain x) = x.ask.number
number_of (done.Border x) = x.job.number

-- the solved job is the job of the member's request of its number, where that one is ready
abbrev pub IsOwnDone : Tiers Pin Segment → As → Done → Type 0
IsOwnDone t d (done.Domain x) = (same_as d parent_as ≡ false) × IfSome (at_domain d t.elements) (λ e. IsOwnJob e x)
IsOwnDone t d (done.Border x) = (same_as d parent_as ≡ true) × IfSome (border_job t x.job.number) (λ j. x.job ≡ j)

-- the request of an element that is ready is answered by rows of its job
pub record ElementAnswers (n : NetworkParts) (now : ℕ) (d : As) (k : ℕ) (ms : Membership Pin Segment) (r : Replied Pin Segment) : Type 0 where
  pub upper : same_as d parent_as ≡ false
  pub held : Held (Item Pin)
  pub is_held : lookup (nat_eq k) (ms.elements d).pending.rows ≡ Some held
  pub down : List Branch
  pub ready : held.item.stage ≡ Ready down
  pub rows : Answer
  pub right : AreRows held.item.pin.topology (ask wire n d (k, held) down) rows
  pub is : r ≡ solved_below own_part n now d (k, held) down rows.source_known rows.target_known rows.best ms

abbrev pub MemberAnswers : NetworkParts → ℕ → As → ℕ → Membership Pin Segment → Replied Pin Segment → Type 0
MemberAnswers n now d k ms r = ElementAnswers n now d k ms r ⊎ ((d ≡ parent_as) × ParentAnswers n k ms r)

-- the solved job that a plan was made for, if there is one
abbrev pub back_of : {W : Type 0} {P : Type 0} {S : Type 0} → MemberPlan W P S Solution → Option Done
back_of (plan.Element d p) = option_map done.Domain p.solved
back_of (plan.Parent p) = option_map done.Border p.solved

-- a solved job is planned: nothing changes, and the plan is its answer, or it is handed back
pub record Commits {W : Type 0} (d : As) (now : ℕ) (x : Done) (old : Tiers Pin Segment) (result : Result (MemberPlan W Pin Segment Solution) (Refusal Done)) (new : Tiers Pin Segment) : Type 0 where
  pub same : Become first_pin old (members_of first_pin old) (lost_in old) new
  pub there : OnOk result (has_jobs old.network d ≡ true)
  pub fits : IfOk result (FitsIn new)
  pub answers : IfOk result (λ plan. MemberAnswers old.network now d (number_of x) (members_of first_pin old) (record { members = next_by first_pin new plan; outputs = sent_by plan }))
  pub one : IfOk result (λ plan. length (sent_by plan) ≡ 1)
  pub solved : IfOk result (λ plan. back_of plan ≡ Some x)
  pub why : IfErr result (λ r. IsRefusedFor old.network d (number_of x) (members_of first_pin old) r.why)
  pub back : IfErr result (λ r. r.back ≡ x)

-- why an element does not answer, with what was solved
abbrev pub IsBack : Seen Pin Segment → Solution → Refusal Solution → Type 0
IsBack e x r = IsWhyNot (element.job_at e x.ask.number) r.why × (r.back ≡ x)
