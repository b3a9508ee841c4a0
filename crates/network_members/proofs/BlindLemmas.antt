-- The answer of a member without topologies is that of the model.
use Rattle.std.proofs.Common.{◌≡◌, ◌≤◌, ℕ, Bool, true, false, cond, nat_eq, is_some, option_map, Option, Some, None, Result, Ok, Err, List, inl, inr, refl, sym, ◌∙◌, ap, ap₂, subst}
use Rattle.std.specs.Prelude.{IfOk, IfSome, MatchOption}
use Rattle.std.specs.Map.{lookup}
use Rattle.pce_common.specs.plant_model.Types.{As, NoMemory, BorderRow, Held}
use Rattle.plant_text.specs.Names.{same_as, parent_as}
use Rattle.plant_text.specs.Settings.{is_element}
use Rattle.pce_common.specs.plant_model.declared.outcome.Refused.{Refused}
use Rattle.pce_common.specs.plant_model.declared.outcome.Refused.TheVariants as refused
use Rattle.pce_common.specs.plant_model.declared.upper.BorderJob.{BorderJob}
use Rattle.pce_common.specs.plant_model.Blind.{Nothing, show_nothing}
use Rattle.pce_common.specs.plant_model.BorderGraph.{SolvesBorder}
use Rattle.pce_common.specs.plant_model.Element.{Element, Item, ElementSettings, Taken, is_ready}
use Rattle.pce_common.specs.plant_model.Events.{has_jobs, is_ready_asking, is_ready_row}
use Rattle.pce_common.specs.plant_model.Parent as parent
use Rattle.pce_common.specs.plant_model.RealWire.{wire}
use Rattle.pce_common.specs.plant_model.Settings.{family, place}
use Rattle.pce_common.specs.plant_model.Solving.{commit, job_found}
use Rattle.pce_common.specs.Membership.{KeysBefore, Membership, Replied, with_element, with_parent}
use Rattle.pce_element.specs.Blind.{HasNoJob, IsSolvedBy, stands_for_nothing}
use Rattle.pce_element.specs.Plans.{Planned}
use Rattle.pce_element.specs.Seen.{Seen}
use Rattle.pce_element.specs.pce_common.Refusals.{IsWhyNot}
use Rattle.pce_parent.specs.Plans.{Planned as BorderPlanned}
use Rattle.pce_parent.specs.Seen as border
use Rattle.pce_parent.specs.Solution.{BorderSolution}
use Rattle.network_members.specs.Answering.{is_ready_at}
use Rattle.network_members.specs.Becoming.{Becomes, unchanged}
use Rattle.network_members.specs.Blind.{IsUnsolved, MemberAnswers, Solves, nothing_first, told_below}
use Rattle.network_members.specs.Elements.{at_domain, element_or}
use Rattle.network_members.specs.Tiers.{Tiers, AreSet, Become, lost_in, members_of}
use Rattle.network_members.specs.declared.plan.MemberPlan.{MemberPlan}
use Rattle.network_members.specs.declared.plan.MemberPlan.TheVariants as plan
use Rattle.network_members.proofs.AnswerLemmas.{IsAnsweredAbove, answered_above, no_border_job, refused_for}
use Rattle.network_members.proofs.DomainLemmas.{found_own}
use Rattle.network_members.proofs.StepLemmas.{is_upper, keeps_below}
use Rattle.network_members.proofs.TierLemmas.{placed_at}

-- a request without a job is not ready
no_job : (s : Seen Nothing Nothing) (k : ℕ) → HasNoJob s k → is_ready_row (lookup (nat_eq k) s.losing.element.pending.rows) ≡ false
no_job s k none = go (lookup (nat_eq k) s.losing.element.pending.rows) refl
  where
    at_test : (h : Held (Item Nothing)) → lookup (nat_eq k) s.losing.element.pending.rows ≡ Some h → (b : Bool) → is_ready h.item.stage ≡ b → b ≡ false
    at_test h found true ready = absurd (none h.item (ap (λ (o : Option (Held (Item Nothing))). option_map (λ (x : Held (Item Nothing)). x.item) o) found) ready)
    at_test h found false ready = refl

    go : (o : Option (Held (Item Nothing))) → lookup (nat_eq k) s.losing.element.pending.rows ≡ o → is_ready_row o ≡ false
    go None found = refl
    go (Some h) found = at_test h found (is_ready h.item.stage) refl

module _ (d : As) (k : ℕ) (rows : List BorderRow) (now : ℕ) (t : Tiers Nothing Nothing) (es : List (Seen Nothing Nothing)) (are : AreSet t) (below : same_as d parent_as ≡ false) (there : is_element t.network d ≡ true)
    (b : Becomes d unchanged t.elements es) where
  abbrev u : Tiers Nothing Nothing
  u = record t { elements = es }

  jobs : has_jobs t.network d ≡ true
  jobs = ap (λ (c : Bool). cond c (is_some t.network.parent) (is_element t.network d)) below ∙ there

  same : Become nothing_first t (members_of nothing_first t) (lost_in t) u
  same = keeps_below nothing_first show_nothing d t es b below

  element_is : b.one.losing.element ≡ (members_of nothing_first t).elements d
  element_is = ap (element_or t.network t.clock d) (sym b.found)

  place_is : b.one.place ≡ place t.network d
  place_is = placed_at t.network d t.elements b.one are.places b.found ∙ ap (place t.network) (found_own d t.elements b.one b.found)

  answers : {D : Type 0} (p : Planned Nothing Nothing D) → IsSolvedBy b.one k rows now p.taken → MemberAnswers t.network now d k rows (members_of nothing_first t) (record { members = with_element d p.taken.element (members_of nothing_first u); outputs = p.taken.outputs })
  answers p a =
      let taken_is : p.taken ≡ commit wire (place t.network d) (k, a.held) a.down now stands_for_nothing (job_found true true a.best) ((members_of nothing_first t).elements d) =
      a.is ∙ ap₂ (λ (e : ElementSettings) (m : Element Nothing Nothing). commit wire e (k, a.held) a.down now stands_for_nothing (job_found true true a.best) m) place_is element_is in
      inl (record {
        upper = below;
        held = a.held;
        is_held = ap (λ (m : Element Nothing Nothing). lookup (nat_eq k) m.pending.rows) (sym element_is) ∙ a.is_held;
        down = a.down;
        ready = a.ready;
        best = a.best;
        joined = a.joined t.network;
        is = ap₂ (λ (r : Taken Nothing Nothing) (ms : Membership Nothing Nothing). let z : Replied Nothing Nothing = record { members = with_element d r.element ms; outputs = r.outputs } in z) taken_is same.seen;
      })

  pub solves_below : {W : Type 0} {D : Type 0} (r : Result (Option (Planned Nothing Nothing D)) NoMemory) → IfOk r (λ o. IfSome o (λ p. at_domain d es ≡ Some p.from)) →
      IfOk r (λ o. IfSome (at_domain d t.elements) (λ e. MatchOption o (HasNoJob e k) (λ p. IsSolvedBy e k rows now p.taken))) → Solves {W = W} d k rows now t (told_below d r) u
  solves_below (Ok (Some p)) from taken =
      let a : IsSolvedBy b.one k rows now p.taken = subst (λ (o : Option (Seen Nothing Nothing)). IfSome o (λ e. IsSolvedBy e k rows now p.taken)) b.found taken in
      record { same = same; there = jobs; fits = (below, from); answers = answers p a; why = tt }
  solves_below (Ok None) from taken =
      let none : HasNoJob b.one k = subst (λ (o : Option (Seen Nothing Nothing)). IfSome o (λ e. HasNoJob e k)) b.found taken in
      record {
        same = same;
        there = tt;
        fits = tt;
        answers = tt;
        why = (
          jobs,
          ap (λ (c : Bool). cond c (is_ready_asking (lookup (nat_eq k) t.parent.losing.parent.pending.rows)) (is_ready_row (lookup (nat_eq k) ((members_of nothing_first t).elements d).pending.rows))) below
              ∙ ap (λ (m : Element Nothing Nothing). is_ready_row (lookup (nat_eq k) m.pending.rows)) (sym element_is) ∙ no_job b.one k none,
        );
      }
  solves_below (Err why) from taken = record { same = same; there = tt; fits = tt; answers = tt; why = tt }

-- ---- at the parent

module _ (d : As) (k : ℕ) (rows : List BorderRow) (now : ℕ) (t : Tiers Nothing Nothing) (are : AreSet t) (upper : same_as d parent_as ≡ true) (there : has_jobs t.network d ≡ true) where
  stays : Become nothing_first t (members_of nothing_first t) (lost_in t) t
  stays = record { network = refl; seen = refl; lost_is = refl }

  not_ready : border.job_at t.parent k ≡ None → is_ready_at d k (members_of nothing_first t) ≡ false
  not_ready none =
      let asking = t.parent.losing.parent.pending.rows in
      ap (λ (c : Bool). cond c (is_ready_asking (lookup (nat_eq k) asking)) (is_ready_row (lookup (nat_eq k) ((members_of nothing_first t).elements d).pending.rows))) upper
      ∙ no_border_job t.parent.family k (lookup (nat_eq k) asking) none

  pub unsolved_above : {W : Type 0} {D : Type 0} (why : Refused) → IsUnsolved (border.job_at t.parent k) why → Solves {W = W} {D = D} d k rows now t (Err why) t
  unsolved_above refused.NoSuchJob none = record { same = stays; there = tt; fits = tt; answers = tt; why = (there, not_ready none) }
  unsolved_above refused.NoMemory none = record { same = stays; there = tt; fits = tt; answers = tt; why = tt }
  unsolved_above refused.NoSuchPeer none = absurd none
  unsolved_above refused.GenerationsFull none = absurd none
  unsolved_above (refused.NotHolder holder) none = absurd none
  unsolved_above refused.NothingToCarry none = absurd none

  module _ (x : BorderSolution) (s : border.Seen) (job : border.job_at t.parent k ≡ Some x.job) (right : SolvesBorder x.job x.answer) (still : s ≡ t.parent) where
    same_above : Become nothing_first t (members_of nothing_first t) (lost_in t) (record t { parent = s })
    same_above = record {
      network = refl;
      seen = ap (λ (y : border.Seen). members_of nothing_first (record t { parent = y })) still;
      lost_is = ap (λ (y : border.Seen). lost_in (record t { parent = y })) still;
    }

    number_is : x.job.number ≡ k
    number_is = go (lookup (nat_eq k) t.parent.losing.parent.pending.rows) job
      where
        one : (a b : BorderJob) → Some a ≡ Some b → a ≡ b
        one a b e = cc

        none_some : (j : BorderJob) → None ≡ Some j → ⊥
        none_some j e = cc

        at_test : (h : Held parent.Asking) (c : Bool) → cond c (Some (parent.job_of t.parent.family (k, h))) None ≡ Some x.job → x.job.number ≡ k
        at_test h true e = ap (λ (j : BorderJob). j.number) (sym (one (parent.job_of t.parent.family (k, h)) x.job e))
        at_test h false e = absurd (none_some x.job e)

        go : (o : Option (Held parent.Asking)) → border.job_when t.parent.family k o ≡ Some x.job → x.job.number ≡ k
        go None e = absurd (none_some x.job e)
        go (Some h) e = at_test h (parent.is_ready h.item) e

    answers_above : (p : BorderPlanned) → border.committed x t.parent.losing.parent ≡ Some p.given → MemberAnswers t.network now d k rows (members_of nothing_first t) (record { members = with_parent p.given.parent (members_of nothing_first (record t { parent = s })); outputs = p.given.outputs })
    answers_above p is =
        let a : IsAnsweredAbove x t.parent.losing.parent p.given = answered_above x t.parent.losing.parent p.given is in
        let f = family t.network in
        let found : lookup (nat_eq k) t.parent.losing.parent.pending.rows ≡ Some a.held = subst (λ (i : ℕ). lookup (nat_eq i) t.parent.losing.parent.pending.rows ≡ Some a.held) number_is a.found in
        let own : border.job_at t.parent k ≡ Some (parent.job_of f (k, a.held)) =
        ap (border.job_when t.parent.family k) found ∙ ap (λ (c : Bool). cond c (Some (parent.job_of t.parent.family (k, a.held))) None) a.ready ∙ ap (λ (g : parent.Family). Some (parent.job_of g (k, a.held))) are.is_family in
        let same : x.job ≡ parent.job_of f (k, a.held) = one x.job (parent.job_of f (k, a.held)) (sym job ∙ own) in
        inr (
          is_upper d upper,
          record {
            held = a.held;
            is_held = found;
            ready = a.ready;
            answer = x.answer;
            solves = subst (λ (j : BorderJob). SolvesBorder j x.answer) same right;
            is = ap₂ (λ (g : parent.ParentTaken) (ms : Membership Nothing Nothing). let z : Replied Nothing Nothing = record { members = with_parent g.parent ms; outputs = g.outputs } in z)
                (a.is ∙ ap (λ (i : ℕ). parent.commit wire (i, a.held) x.answer t.parent.losing.parent) number_is) same_above.seen;
          },
        )
      where
        one : (a b : BorderJob) → Some a ≡ Some b → a ≡ b
        one a b e = cc

    pub solved_at_parent : {W : Type 0} {D : Type 0} (p : BorderPlanned) → p.from ≡ t.parent → border.committed x t.parent.losing.parent ≡ Some p.given → Solves {W = W} {D = D} d k rows now t (Ok (plan.Parent p)) (record t { parent = s })
    solved_at_parent p from given = record { same = same_above; there = there; fits = from ∙ sym still; answers = answers_above p given; why = tt }

    pub refused_above : {W : Type 0} {D : Type 0} (why : Refused) → IsWhyNot (border.job_at t.parent x.job.number) why → Solves {W = W} {D = D} d k rows now t (Err why) (record t { parent = s })
    refused_above why is = record {
      same = same_above;
      there = tt;
      fits = tt;
      answers = tt;
      why = refused_for t.network d k (members_of nothing_first t) (border.job_at t.parent k) why there not_ready (subst (λ (i : ℕ). IsWhyNot (border.job_at t.parent i) why) number_is is);
    }

pub solves_as : {W : Type 0} {D : Type 0} (t u : Tiers Nothing Nothing) → t ≡ u → (d : As) (k : ℕ) (rows : List BorderRow) (now : ℕ) (r r' : Result (MemberPlan W Nothing Nothing D) Refused) (v : Tiers Nothing Nothing) → r ≡ r' → Solves d k rows now t r v → Solves d k rows now u r' v
solves_as t u is d k rows now r r' v same h = subst (λ (z : Result _ Refused). Solves d k rows now u z v) same (subst (λ (y : Tiers Nothing Nothing). Solves d k rows now y r v) is h)

-- the keys of an element were issued before the moment
pub clock_there : (d : As) (now : ℕ) (t : Tiers Nothing Nothing) → is_element t.network d ≡ true → KeysBefore now t.network (members_of nothing_first t) → IfSome (at_domain d t.elements) (λ e. e.losing.element.keys.clock ≤ now)
clock_there d now t there keys = go (at_domain d t.elements) refl
  where
    go : (o : Option (Seen Nothing Nothing)) → at_domain d t.elements ≡ o → IfSome o (λ e. e.losing.element.keys.clock ≤ now)
    go None found = tt
    go (Some e) found = subst (λ (o : Option (Seen Nothing Nothing)). (element_or t.network t.clock d o).keys.clock ≤ now) found (keys d there)
