-- The answer of an element, or of the parent, to a solved job is that of the model.
use Rattle.std.proofs.Common.{◌≡◌, ℕ, Bool, true, false, cond, nat_eq, is_some, length, option_map, Option, Some, None, Ok, Err, List, inl, inr, refl, sym, ◌∙◌, ap, ap₂, subst}
use Rattle.std.specs.Prelude.{IfSome}
use Rattle.std.specs.Map.{lookup}
use Rattle.pce_common.specs.plant_model.Types.{As, Held, Branch, Ask, NetworkParts}
use Rattle.disclosure.specs.Shown.{open_of}
use Rattle.te_links.specs.Rows.{Rows}
use Rattle.border_costs.specs.Solutions.{AreRows, Solution}
use Rattle.plant_text.specs.Names.{same_as, parent_as}
use Rattle.plant_text.specs.Settings.{is_element}
use Rattle.pce_common.specs.plant_model.declared.outcome.Refused.{Refused}
use Rattle.pce_common.specs.plant_model.declared.upper.BorderJob.{BorderJob}
use Rattle.pce_common.specs.plant_model.BorderGraph.{Found, SolvesBorder}
use Rattle.pce_common.specs.plant_model.Element.{Element, Item, ElementSettings, Stage, Taken, Waits, Ready, is_ready}
use Rattle.pce_common.specs.plant_model.Events.{has_jobs, is_ready_asking, is_ready_row}
use Rattle.pce_common.specs.plant_model.Jobs.{ask_of}
use Rattle.pce_common.specs.plant_model.Parent as parent
use Rattle.pce_common.specs.plant_model.Plant.{Pin, Segment, ask, first_pin}
use Rattle.pce_common.specs.plant_model.RealWire.{wire}
use Rattle.pce_common.specs.plant_model.Settings.{family, place}
use Rattle.pce_common.specs.plant_model.Solving.{commit, job_found}
use Rattle.pce_common.specs.Membership.{Membership, Replied, with_element, with_parent}
use Rattle.pce_element.specs.Committing.{IsOwnJob, commit_held, commit_solved, commit_stage, committed}
use Rattle.pce_element.specs.Jobs.{Work, job_at, work_for, work_at}
use Rattle.pce_element.specs.Plans.{Planned}
use Rattle.pce_element.specs.Seen.{Seen}
use Rattle.pce_element.specs.pce_common.Refusals.{IsWhyNot}
use Rattle.pce_element.specs.pce_common.declared.refusal.Refusal.{Refusal}
use Rattle.pce_parent.specs.Plans.{Planned as BorderPlanned}
use Rattle.pce_parent.specs.Seen as border
use Rattle.pce_parent.specs.Solution.{BorderSolution}
use Rattle.pce_parent.specs.declared.work.Done.TheVariants as done
use Rattle.network_members.specs.Answering.{Commits, IsBack, IsRefusedFor, MemberAnswers, border_job, is_ready_at}
use Rattle.network_members.specs.Becoming.{Becomes, unchanged}
use Rattle.network_members.specs.Elements.{own_of, at_domain, element_or}
use Rattle.network_members.specs.Tiers.{Tiers, AreSet, Become, lost_in, members_of}
use Rattle.network_members.specs.declared.plan.MemberPlan.TheVariants as plan
use Rattle.network_members.proofs.DomainLemmas.{found_own}
use Rattle.network_members.proofs.StepLemmas.{is_upper, keeps_below}
use Rattle.network_members.proofs.TierLemmas.{placed_at}

-- why a member does not answer, where no request without a job is ready
pub refused_for : {P S J : Type 0} (n : NetworkParts) (d : As) (k : ℕ) (ms : Membership P S) (job : Option J) (why : Refused) → has_jobs n d ≡ true → (job ≡ None → is_ready_at d k ms ≡ false) → IsWhyNot job why → IsRefusedFor n d k ms why
refused_for n d k ms None why jobs ready is = subst (IsRefusedFor n d k ms) (sym is) (jobs, ready refl)
refused_for n d k ms (Some job) why jobs ready is = subst (IsRefusedFor n d k ms) (sym is) tt

-- the request that is answered
record IsAnswered (s : Seen Pin Segment) (x : Solution) (now : ℕ) (taken : Taken Pin Segment) : Type 0 where
  held : Held (Item Pin)
  found : lookup (nat_eq x.ask.number) s.losing.element.pending.rows ≡ Some held
  down : List Branch
  ready : held.item.stage ≡ Ready down
  is : taken ≡ commit_solved s x now (x.ask.number, held) down

is_answered : (s : Seen Pin Segment) (x : Solution) (now : ℕ) (taken : Taken Pin Segment) → committed s x now ≡ Some taken → IsAnswered s x now taken
is_answered s x now taken is = go (lookup (nat_eq x.ask.number) s.losing.element.pending.rows) refl is
  where
    some_one : (a b : Taken Pin Segment) → Some a ≡ Some b → a ≡ b
    some_one a b e = cc

    none_some : None ≡ Some taken → ⊥
    none_some e = cc

    at_stage : (h : Held (Item Pin)) → lookup (nat_eq x.ask.number) s.losing.element.pending.rows ≡ Some h → (stage : Stage) → h.item.stage ≡ stage → commit_stage s x now (x.ask.number, h) stage ≡ Some taken → IsAnswered s x now taken
    at_stage h found (Waits on id) stands e = absurd (none_some e)
    at_stage h found (Ready down) stands e = record { held = h; found = found; down = down; ready = stands; is = sym (some_one (commit_solved s x now (x.ask.number, h) down) taken e) }

    go : (o : Option (Held (Item Pin))) → lookup (nat_eq x.ask.number) s.losing.element.pending.rows ≡ o → commit_held s x now x.ask.number o ≡ Some taken → IsAnswered s x now taken
    go None found e = absurd (none_some e)
    go (Some h) found e = at_stage h found h.item.stage refl e

-- what was solved is its job
own_work : (s : Seen Pin Segment) (x : Solution) (now : ℕ) (taken : Taken Pin Segment) (a : IsAnswered s x now taken) → IsOwnJob s x → (x.ask ≡ ask_of (own_of s) x.ask.number a.held.item a.down a.held.item.pin.number a.held.item.pin.topology) × (x.topology ≡ a.held.item.pin.topology)
own_work s x now taken a own =
    let k = x.ask.number in
    let w : Work = record { ask = ask_of (own_of s) k a.held.item a.down a.held.item.pin.number a.held.item.pin.topology; topology = a.held.item.pin.topology } in
    let job : job_at s k ≡ Some w =
    ap (λ (o : Option (Held (Item Pin))). work_for (own_of s) k (option_map (λ (h : Held (Item Pin)). h.item) o)) a.found
    ∙ ap (work_at (own_of s) k a.held.item) a.ready in
    subst (λ (o : Option Work). IfSome o (λ v. (x.ask ≡ v.ask) × (x.topology ≡ v.topology))) job own

-- a request without a job is not ready
pub no_job : (s : Seen Pin Segment) (k : ℕ) → job_at s k ≡ None → is_ready_row (lookup (nat_eq k) s.losing.element.pending.rows) ≡ false
no_job s k none = go (lookup (nat_eq k) s.losing.element.pending.rows) none
  where
    at_stage : (i : Item Pin) (stage : Stage) → work_at (own_of s) k i stage ≡ None → is_ready stage ≡ false
    at_stage i (Waits on id) e = refl
    at_stage i (Ready down) e = absurd (let no : Some (let v : Work = record { ask = ask_of (own_of s) k i down i.pin.number i.pin.topology; topology = i.pin.topology } in v) ≡ None = e in cc)

    go : (o : Option (Held (Item Pin))) → work_for (own_of s) k (option_map (λ (h : Held (Item Pin)). h.item) o) ≡ None → is_ready_row o ≡ false
    go None e = refl
    go (Some h) e = at_stage h.item h.item.stage e

module _ (d : As) (now : ℕ) (x : Solution) (t : Tiers Pin Segment) (es : List (Seen Pin Segment)) (are : AreSet t) (below : same_as d parent_as ≡ false) (there : is_element t.network d ≡ true)
    (right : AreRows x.topology x.ask x.rows) (own : IfSome (at_domain d t.elements) (λ e. IsOwnJob e x)) (b : Becomes d unchanged t.elements es) where
  abbrev u : Tiers Pin Segment
  u = record t { elements = es }

  jobs : has_jobs t.network d ≡ true
  jobs = ap (λ (c : Bool). cond c (is_some t.network.parent) (is_element t.network d)) below ∙ there

  one_own : IsOwnJob b.one x
  one_own = subst (λ (o : Option (Seen Pin Segment)). IfSome o (λ e. IsOwnJob e x)) b.found own

  answers : (p : Planned Pin Segment Solution) → committed b.one x now ≡ Some p.taken → MemberAnswers t.network now d x.ask.number (members_of first_pin t) (record { members = with_element d p.taken.element (members_of first_pin u); outputs = p.taken.outputs })
  answers p is =
      let a = is_answered b.one x now p.taken is in
      let work = own_work b.one x now p.taken a one_own in
      let k = x.ask.number in
      let domain : own_of b.one ≡ d = found_own d t.elements b.one b.found in
      let same = keeps_below first_pin open_of d t es b below in
      let element_is : b.one.losing.element ≡ (members_of first_pin t).elements d = ap (element_or t.network t.clock d) (sym b.found) in
      let place_is : b.one.place ≡ place t.network d = placed_at t.network d t.elements b.one are.places b.found ∙ ap (place t.network) domain in
      let asked : x.ask ≡ ask wire t.network d (k, a.held) a.down = work.0 ∙ ap (λ (o : As). ask_of o k a.held.item a.down a.held.item.pin.number a.held.item.pin.topology) domain in
      let taken_is : p.taken ≡ commit wire (place t.network d) (k, a.held) a.down now (λ s. s.segment) (job_found x.rows.source_known x.rows.target_known x.rows.best) ((members_of first_pin t).elements d) =
      a.is ∙ ap₂ (λ (e : ElementSettings) (m : Element Pin Segment). commit wire e (k, a.held) a.down now (λ s. s.segment) (job_found x.rows.source_known x.rows.target_known x.rows.best) m) place_is element_is in
      inl (record {
        upper = below;
        held = a.held;
        is_held = ap (λ (m : Element Pin Segment). lookup (nat_eq k) m.pending.rows) (sym element_is) ∙ a.found;
        down = a.down;
        ready = a.ready;
        rows = x.rows;
        right = subst (λ (g : Rows). AreRows g (ask wire t.network d (k, a.held) a.down) x.rows) work.1 (subst (λ (q : Ask). AreRows x.topology q x.rows) asked right);
        is = ap₂ (λ (r : Taken Pin Segment) (ms : Membership Pin Segment). let z : Replied Pin Segment = record { members = with_element d r.element ms; outputs = r.outputs } in z) taken_is same.seen;
      })

  pub answered_below : {W : Type 0} → (p : Planned Pin Segment Solution) → at_domain d es ≡ Some p.from → IfSome (at_domain d t.elements) (λ e. committed e x now ≡ Some p.taken) → length p.taken.outputs ≡ 1 → p.solved ≡ Some x
      → Commits {W = W} d now (done.Domain x) t (Ok (plan.Element d p)) u
  answered_below p from taken one solved = record {
    same = keeps_below first_pin open_of d t es b below;
    there = jobs;
    fits = (below, from);
    answers = answers p (subst (λ (o : Option (Seen Pin Segment)). IfSome o (λ e. committed e x now ≡ Some p.taken)) b.found taken);
    one = one;
    solved = ap (option_map done.Domain) solved;
    why = tt;
    back = tt;
  }

  unready : job_at b.one x.ask.number ≡ None → is_ready_at d x.ask.number (members_of first_pin t) ≡ false
  unready none =
      ap (λ (c : Bool). cond c (is_ready_asking (lookup (nat_eq x.ask.number) t.parent.losing.parent.pending.rows)) (is_ready_row (lookup (nat_eq x.ask.number) ((members_of first_pin t).elements d).pending.rows))) below
      ∙ ap (λ (e : Option (Seen Pin Segment)). is_ready_row (lookup (nat_eq x.ask.number) (element_or t.network t.clock d e).pending.rows)) b.found ∙ no_job b.one x.ask.number none

  pub refused_below : {W : Type 0} → (r : Refusal Solution) → IfSome (at_domain d t.elements) (λ e. IsBack e x r) → Commits {W = W} d now (done.Domain x) t (Err (record { why = r.why; back = done.Domain r.back })) u
  refused_below r back =
      let is : IsBack b.one x r = subst (λ (o : Option (Seen Pin Segment)). IfSome o (λ e. IsBack e x r)) b.found back in
      record {
        same = keeps_below first_pin open_of d t es b below;
        there = tt;
        fits = tt;
        answers = tt;
        one = tt;
        solved = tt;
        why = refused_for t.network d x.ask.number (members_of first_pin t) (job_at b.one x.ask.number) r.why jobs unready is.0;
        back = ap done.Domain is.1;
      }

-- ---- at the parent

-- the request that is answered
pub record IsAnsweredAbove (x : BorderSolution) (k : parent.Parent) (given : parent.ParentTaken) : Type 0 where
  pub held : Held parent.Asking
  pub found : lookup (nat_eq x.job.number) k.pending.rows ≡ Some held
  pub ready : parent.is_ready held.item ≡ true
  pub is : given ≡ parent.commit wire (x.job.number, held) x.answer k

pub answered_above : (x : BorderSolution) (k : parent.Parent) (given : parent.ParentTaken) → border.committed x k ≡ Some given → IsAnsweredAbove x k given
answered_above x k given is = go (lookup (nat_eq x.job.number) k.pending.rows) refl is
  where
    some_one : (a b : parent.ParentTaken) → Some a ≡ Some b → a ≡ b
    some_one a b e = cc

    none_some : None ≡ Some given → ⊥
    none_some e = cc

    at_test : (h : Held parent.Asking) → lookup (nat_eq x.job.number) k.pending.rows ≡ Some h → (b : Bool) → parent.is_ready h.item ≡ b → cond b (Some (parent.commit wire (x.job.number, h) x.answer k)) None ≡ Some given → IsAnsweredAbove x k given
    at_test h found true ready e = record { held = h; found = found; ready = ready; is = sym (some_one (parent.commit wire (x.job.number, h) x.answer k) given e) }
    at_test h found false ready e = absurd (none_some e)

    go : (o : Option (Held parent.Asking)) → lookup (nat_eq x.job.number) k.pending.rows ≡ o → border.committed_when x k o ≡ Some given → IsAnsweredAbove x k given
    go None found e = absurd (none_some e)
    go (Some h) found e = at_test h found (parent.is_ready h.item) refl e

one_above : (h : parent.AskingRow) (a : Option Found) (k : parent.Parent) → length (parent.commit wire h a k).outputs ≡ 1
one_above h None k = refl
one_above h (Some a) k = refl

-- a request without a job is not ready
pub no_border_job : (f : parent.Family) (k : ℕ) (o : Option (Held parent.Asking)) → border.job_when f k o ≡ None → is_ready_asking o ≡ false
no_border_job f k None none = refl
no_border_job f k (Some h) none = go (parent.is_ready h.item) none
  where
    some_none : (j : BorderJob) → Some j ≡ None → ⊥
    some_none j e = cc

    go : (b : Bool) → cond b (Some (parent.job_of f (k, h))) None ≡ None → b ≡ false
    go true e = absurd (some_none (parent.job_of f (k, h)) e)
    go false e = refl

module _ (d : As) (now : ℕ) (x : BorderSolution) (t : Tiers Pin Segment) (s : border.Seen) (are : AreSet t) (upper : same_as d parent_as ≡ true) (there : has_jobs t.network d ≡ true)
    (right : SolvesBorder x.job x.answer) (own : IfSome (border_job t x.job.number) (λ j. x.job ≡ j)) (stays : s ≡ t.parent) where
  abbrev v : Tiers Pin Segment
  v = record t { parent = s }

  still : Become first_pin t (members_of first_pin t) (lost_in t) v
  still = record {
    network = refl;
    seen = ap (λ (y : border.Seen). members_of first_pin (record t { parent = y })) stays;
    lost_is = ap (λ (y : border.Seen). lost_in (record t { parent = y })) stays;
  }

  answers_above : (p : BorderPlanned) → border.committed x t.parent.losing.parent ≡ Some p.given → MemberAnswers t.network now d x.job.number (members_of first_pin t) (record { members = with_parent p.given.parent (members_of first_pin v); outputs = p.given.outputs })
  answers_above p is =
      let a = answered_above x t.parent.losing.parent p.given is in
      let k = x.job.number in
      let f = family t.network in
      let job : border_job t k ≡ Some (parent.job_of f (k, a.held)) =
      ap (border.job_when f k) a.found ∙ ap (λ (b : Bool). cond b (Some (parent.job_of f (k, a.held))) None) a.ready in
      let same : x.job ≡ parent.job_of f (k, a.held) = subst (λ (o : Option BorderJob). IfSome o (λ (j : BorderJob). x.job ≡ j)) job own in
      inr (
        is_upper d upper,
        record {
          held = a.held;
          is_held = a.found;
          ready = a.ready;
          answer = x.answer;
          solves = subst (λ (j : BorderJob). SolvesBorder j x.answer) same right;
          is = ap₂ (λ (g : parent.ParentTaken) (ms : Membership Pin Segment). let z : Replied Pin Segment = record { members = with_parent g.parent ms; outputs = g.outputs } in z) a.is still.seen;
        },
      )

  not_ready : border.job_at t.parent x.job.number ≡ None → is_ready_at d x.job.number (members_of first_pin t) ≡ false
  not_ready none =
      let k = x.job.number in
      let rows = t.parent.losing.parent.pending.rows in
      ap (λ (c : Bool). cond c (is_ready_asking (lookup (nat_eq k) rows)) (is_ready_row (lookup (nat_eq k) ((members_of first_pin t).elements d).pending.rows))) upper
      ∙ no_border_job t.parent.family k (lookup (nat_eq k) rows) none

  pub answered_at_parent : {W : Type 0} → (p : BorderPlanned) → p.from ≡ t.parent → border.committed x t.parent.losing.parent ≡ Some p.given → p.solved ≡ Some x → Commits {W = W} d now (done.Border x) t (Ok (plan.Parent p)) v
  answered_at_parent p from given solved =
      let a = answered_above x t.parent.losing.parent p.given given in
      record {
        same = still;
        there = there;
        fits = from ∙ sym stays;
        answers = answers_above p given;
        one = ap (λ (g : parent.ParentTaken). length g.outputs) a.is ∙ one_above (x.job.number, a.held) x.answer t.parent.losing.parent;
        solved = ap (option_map done.Border) solved;
        why = tt;
        back = tt;
      }

  pub refused_above : {W : Type 0} → (r : Refusal BorderSolution) → IsWhyNot (border.job_at t.parent x.job.number) r.why → r.back ≡ x → Commits {W = W} d now (done.Border x) t (Err (record { why = r.why; back = done.Border r.back })) v
  refused_above r why back = record {
    same = still;
    there = tt;
    fits = tt;
    answers = tt;
    one = tt;
    solved = tt;
    why = refused_for t.network d x.job.number (members_of first_pin t) (border.job_at t.parent x.job.number) r.why there not_ready why;
    back = ap done.Border back;
  }
