-- A member that answers a solved job is the model's solve.
use Rattle.std.proofs.Common.{◌≡◌, ℕ, true, Result, Ok, Err, List, [], ◌∷◌, inl, inr, refl, sym, ◌∙◌, ap, subst}
use Rattle.network_events.specs.plant_model.Types.{As, NetworkParts}
use Rattle.disclosure.specs.Shown.{open_of}
use Rattle.plant_text.specs.Names.{parent_as}
use Rattle.network_events.specs.plant_model.declared.event.Event.TheVariants.{Solve}
use Rattle.network_events.specs.plant_model.declared.outcome.Outcome.{Outcome}
use Rattle.network_events.specs.plant_model.declared.outcome.Outcome.TheVariants as outcome
use Rattle.network_events.specs.plant_model.declared.outcome.Refused.{Refused}
use Rattle.network_events.specs.plant_model.declared.outcome.Refused.TheVariants as refused
use Rattle.network_events.specs.plant_model.Deeds as deeds
use Rattle.network_events.specs.plant_model.Element.{Taken}
use Rattle.network_events.specs.plant_model.Events.{Answered, has_jobs}
use Rattle.network_events.specs.plant_model.Parent as parent
use Rattle.network_events.specs.plant_model.Plant.{Pin, Plant, PlantDeed, Happened, Segment, Steps, first_pin}
use Rattle.network_events.specs.plant_model.RealWire.{wire}
use Rattle.network_events.specs.plant_model.Settings.{place}
use Rattle.network_events.specs.plant_model.Solving.{commit, job_found}
use Rattle.network_events.specs.plant_model.State.{Solves, said, sent_by}
use Rattle.network_events.specs.network_links.Carried.{Carried, flow_of}
use Rattle.network_events.specs.network_links.Flow.{Flow, SameFlow}
use Rattle.network_events.specs.pce_common.Membership.{Membership, Replied, Standing, is_member, with_element, with_parent}
use Rattle.network_events.specs.Answering.{IsAnswer, Sends}
use Rattle.network_events.specs.Giving.{OnlyGrows}
use Rattle.network_events.specs.Moving as moving
use Rattle.network_events.specs.Standing.{here, state_of}
use Rattle.network_members.specs.Answering.{Commits, ElementAnswers, IsRefusedFor, MemberAnswers, ParentAnswers, number_of}
use Rattle.network_members.specs.Tiers.{lost_in}
use Rattle.network_members.specs.Tiers as tiers
use Rattle.network_members.specs.pce_element.pce_common.declared.refusal.Refusal.{Refusal}
use Rattle.network_members.specs.pce_parent.declared.work.Done.{Done}
use Rattle.network_members.specs.Topologies.{Become, MemberPlan, Tiers, members_of, next_by, standing_of}
use Rattle.plant_network.proofs.AnswerLemmas.{element_answer, parent_answer}
use Rattle.network_members.proofs.StepLemmas.{stands_as}
use Rattle.plant_network.specs.Topologies.{IsKept, IsSound, Moves, held, whole}
use Rattle.plant_network.specs.Jobs.{solved_at, solved_number, told}

-- ---- it is an answer

module _ (n : NetworkParts) (now : ℕ) (d : As) (k : ℕ) (ms : Membership Pin Segment) (r : Replied Pin Segment) where
  by_element : ElementAnswers n now d k ms r → IsAnswer n d r.outputs ms r.members
  by_element a =
      subst (λ (y : Replied Pin Segment). IsAnswer n d y.outputs ms y.members) (sym a.is)
      (element_answer n ms (place n d) now d k a.held a.down (λ b. b.segment) a.rows.source_known a.rows.target_known a.rows.best a.upper a.is_held)

  by_parent : ParentAnswers n k ms r → IsAnswer n parent_as r.outputs ms r.members
  by_parent a = subst (λ (y : Replied Pin Segment). IsAnswer n parent_as y.outputs ms y.members) (sym a.is) (parent_answer n ms k a.held a.answer a.is_held)

  pub member_answer : MemberAnswers n now d k ms r → IsAnswer n d r.outputs ms r.members
  member_answer (inl a) = by_element a
  member_answer (inr a) = subst (λ (x : As). IsAnswer n x r.outputs ms r.members) (sym a.0) (by_parent a.1)

-- ---- it is the model's solve

-- what is put into queues, and the deed that it is
record IsDeed (n : NetworkParts) (d : As) (k : ℕ) (ms ms' : Membership Pin Segment) (f f' : Flow) : Type 0 where
  deeds_are : List PlantDeed
  steps : Steps wire n (state_of ms f) (Solve d k) (record { answer = Ok outcome.Done; state = state_of ms' f'; deeds = deeds_are })
  says : f'.said ≡ said wire deeds_are

module _ (n : NetworkParts) (d : As) (k : ℕ) (ms ms' : Membership Pin Segment) (r : Replied Pin Segment) (f f' : Flow) (jobs : has_jobs n d ≡ true) (next : ms' ≡ r.members) where
  element_deed : ElementAnswers n f.clock d k ms r → Sends n open_of d r.outputs ms' f f' → IsDeed n d k ms ms' f f'
  element_deed a sends = record {
    deeds_are = Solves d k t.outputs t.element.keys.issued ∷ [];
    steps = inl (inr (inr (inl (
      jobs,
      record {
        upper = a.upper;
        held = a.held;
        is_held = a.is_held;
        down = a.down;
        ready = a.ready;
        rows = a.rows;
        right = a.right;
        is = ap (λ (s : Plant). let h : Happened = record { answer = Ok outcome.Done; state = s; deeds = Solves d k t.outputs t.element.keys.issued ∷ [] } in h) state_is;
      },
    ))));
    says = sends.said ∙ ap (λ (y : Replied Pin Segment). sent_by wire d y.outputs) a.is;
  }
    where
      t : Taken Pin Segment
      t = commit wire (place n d) (k, a.held) a.down f.clock (λ b. b.segment) (job_found a.rows.source_known a.rows.target_known a.rows.best) (ms.elements d)

      state_is : state_of ms' f' ≡ deeds.puts Pin Segment wire n open_of d t.outputs (state_of (with_element d t.element ms) f)
      state_is =
          sends.state
          ∙ ap (λ (m : Membership Pin Segment). deeds.puts Pin Segment wire n open_of d r.outputs (state_of m f)) next
          ∙ ap (λ (y : Replied Pin Segment). deeds.puts Pin Segment wire n open_of d y.outputs (state_of y.members f)) a.is

  parent_deed : ParentAnswers n k ms r → d ≡ parent_as → Sends n open_of d r.outputs ms' f f' → IsDeed n d k ms ms' f f'
  parent_deed a upper sends = record {
    deeds_are = Solves parent_as k g.outputs [] ∷ [];
    steps = inl (inr (inr (inr (
      jobs,
      upper,
      record {
        held = a.held;
        is_held = a.is_held;
        ready = a.ready;
        answer = a.answer;
        solves = a.solves;
        is = ap (λ (s : Plant). let h : Happened = record { answer = Ok outcome.Done; state = s; deeds = Solves parent_as k g.outputs [] ∷ [] } in h) state_is;
      },
    ))));
    says = sends.said ∙ ap (λ (y : Replied Pin Segment). sent_by wire d y.outputs) a.is ∙ ap (λ (x : As). sent_by wire x g.outputs) upper;
  }
    where
      g : parent.ParentTaken
      g = parent.commit wire (k, a.held) a.answer ms.parent

      state_is : state_of ms' f' ≡ deeds.puts Pin Segment wire n open_of parent_as g.outputs (state_of (with_parent g.parent ms) f)
      state_is =
          sends.state
          ∙ ap (λ (m : Membership Pin Segment). deeds.puts Pin Segment wire n open_of d r.outputs (state_of m f)) next
          ∙ ap (λ (y : Replied Pin Segment). deeds.puts Pin Segment wire n open_of d y.outputs (state_of y.members f)) a.is
          ∙ ap (λ (x : As). deeds.puts Pin Segment wire n open_of x g.outputs (state_of (with_parent g.parent ms) f)) upper

  member_deed : MemberAnswers n f.clock d k ms r → Sends n open_of d r.outputs ms' f f' → IsDeed n d k ms ms' f f'
  member_deed (inl a) sends = element_deed a sends
  member_deed (inr a) sends = parent_deed a.1 a.0 sends

-- ---- it is refused

refused_steps : (n : NetworkParts) (d : As) (k : ℕ) (ms : Membership Pin Segment) (f : Flow) (s : Plant) (why : Refused) → s ≡ state_of ms f → IsRefusedFor n d k ms why →
    Steps wire n (state_of ms f) (Solve d k) (record { answer = Err why; state = s; deeds = [] })
refused_steps n d k ms f s why same is = go why is
  where
    told_so : (w : Refused) → (let h : Happened = record { answer = Err w; state = s; deeds = [] } in h) ≡ (let h : Happened = record { answer = Err w; state = state_of ms f; deeds = [] } in h)
    told_so w = ap (λ (x : Plant). let h : Happened = record { answer = Err w; state = x; deeds = [] } in h) same

    go : (w : Refused) → IsRefusedFor n d k ms w → Steps wire n (state_of ms f) (Solve d k) (record { answer = Err w; state = s; deeds = [] })
    go refused.NoSuchPeer none = inl (inl (none, told_so refused.NoSuchPeer))
    go refused.NoSuchJob none = inl (inr (inl (none.0, none.1, told_so refused.NoSuchJob)))
    go refused.NoMemory none = inr (refl, told_so refused.NoMemory)
    go refused.GenerationsFull none = absurd none
    go (refused.NotHolder holder) none = absurd none
    go refused.NothingToCarry none = absurd none

-- ---- the event

-- what is not changed but for room is kept
pub kept_still : (t t' : Tiers) (c : Carried) → IsKept (held t c) → Become t (members_of t) (lost_in t) t' → IsKept (held t' c)
kept_still t t' c kept still = subst (λ (s : Standing Pin Segment). moving.IsKept (here s (flow_of c))) (sym (stands_as first_pin t t' (members_of t) (lost_in t) still)) kept

pub stays : (t : Tiers) → Become t (members_of t) (lost_in t) t
stays t = record { network = refl; seen = refl; lost_is = refl }

module _ (t t' : Tiers) (c c' : Carried) (d : As) (k : ℕ) where
  pub moves_refused : Become t (members_of t) (lost_in t) t' → SameFlow (flow_of c) (flow_of c') → IsKept (held t' c') → (why : Refused) → IsRefusedFor t.network d k (members_of t) why →
      Moves (held t c) (Solve d k) (Err why) (held t' c')
  moves_refused still same kept why is = record {
    stepped = record {
      network = still.network;
      deeds = [];
      steps = refused_steps t.network d k (members_of t) (flow_of c) (whole (held t' c')).state why
          (ap (λ (f : Flow). state_of (members_of t') f) same ∙ ap (λ (ms : Membership Pin Segment). state_of ms (flow_of c)) still.seen) is;
      accepted = tt;
      refused = ap (λ (f : Flow). f.said) same;
    };
    kept = kept;
  }

  pub moves_done : (r : Replied Pin Segment) → t'.network ≡ t.network → has_jobs t.network d ≡ true → MemberAnswers t.network (flow_of c).clock d k (members_of t) r → members_of t' ≡ r.members →
      Sends t.network open_of d r.outputs (members_of t') (flow_of c) (flow_of c') → IsKept (held t' c') → Moves (held t c) (Solve d k) (Ok outcome.Done) (held t' c')
  moves_done r network jobs answers next sends kept =
      let deed = member_deed t.network d k (members_of t) (members_of t') r (flow_of c) (flow_of c') jobs next answers sends in
      record {
        stepped = record { network = network; deeds = deed.deeds_are; steps = deed.steps; accepted = deed.says; refused = tt };
        kept = kept;
      }

-- ---- what is planned, and then done

module _ (t t1 : Tiers) (c : Carried) (d : As) (now : ℕ) (x : Done) (at_is : d ≡ solved_at x) (sound : IsSound (held t c)) where
  pub planned_err : {W : Type 0} → (u : Refusal Done) → Commits {W = W} d now x t (Err u) t1 → Moves (held t c) (Solve (solved_at x) (solved_number x)) (Err u.why) (held t1 c)
  planned_err u m =
      subst (λ (a : As). Moves (held t c) (Solve a (solved_number x)) (Err u.why) (held t1 c)) at_is
      (moves_refused t t1 c c d (number_of x) m.same refl (kept_still t t1 c sound.kept m.same) u.why m.why)

  module _ (p : MemberPlan) (m : Commits d now x t (Ok p) t1) where
    pub plan_member : is_member t1.network d ≡ true
    plan_member = ap (λ (n : NetworkParts). is_member n d) m.same.network ∙ m.there

    pub plan_answers : IsAnswer t1.network d (tiers.sent_by p) (members_of t1) (next_by t1 p)
    plan_answers =
        subst (λ (n : NetworkParts). IsAnswer n d (tiers.sent_by p) (members_of t1) (next_by t1 p)) (sym m.same.network)
        (subst (λ (ms : Membership Pin Segment). IsAnswer t.network d (tiers.sent_by p) ms (next_by t1 p)) (sym m.same.seen)
        (member_answer t.network now d (number_of x) (members_of t) (record { members = next_by t1 p; outputs = tiers.sent_by p }) m.answers))

    pub plan_kept : IsKept (held t1 c)
    plan_kept = kept_still t t1 c sound.kept m.same

    module _ (t' : Tiers) (c' : Carried) (kept : IsKept (held t' c')) where
      pub plan_done : now ≡ (flow_of c).clock → standing_of t' ≡ record (standing_of t1) { seen = next_by t1 p } → Sends t1.network open_of d (tiers.sent_by p) (members_of t') (flow_of c) (flow_of c') →
          Moves (held t c) (Solve (solved_at x) (solved_number x)) (Ok outcome.Done) (held t' c')
      plan_done clock next sends =
          let r : Replied Pin Segment = record { members = next_by t1 p; outputs = tiers.sent_by p } in
          subst (λ (a : As). Moves (held t c) (Solve a (solved_number x)) (Ok outcome.Done) (held t' c')) at_is
          (moves_done t t' c c' d (number_of x) r (ap (λ (s : Standing Pin Segment). s.network) next ∙ m.same.network) m.there (subst (λ (i : ℕ). MemberAnswers t.network i d (number_of x) (members_of t) r) clock m.answers)
          (ap (λ (s : Standing Pin Segment). s.seen) next)
          (subst (λ (n : NetworkParts). Sends n open_of d (tiers.sent_by p) (members_of t') (flow_of c) (flow_of c')) m.same.network sends) kept)

      pub plan_lacks : standing_of t' ≡ standing_of t1 → OnlyGrows (flow_of c) (flow_of c') → Moves (held t c) (Solve (solved_at x) (solved_number x)) (Err refused.NoMemory) (held t' c')
      plan_lacks same grows =
          let still : Become t (members_of t) (lost_in t) t' = record {
            network = ap (λ (s : Standing Pin Segment). s.network) same ∙ m.same.network;
            seen = ap (λ (s : Standing Pin Segment). s.seen) same ∙ m.same.seen;
            lost_is = ap (λ (s : Standing Pin Segment). s.lost) same ∙ m.same.lost_is;
          } in
          subst (λ (a : As). Moves (held t c) (Solve a (solved_number x)) (Err refused.NoMemory) (held t' c')) at_is
          (moves_refused t t' c c' d (number_of x) still grows.same kept refused.NoMemory tt)
