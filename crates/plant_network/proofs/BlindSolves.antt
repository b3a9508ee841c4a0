-- A member that answers a request by given rows is the model's solve.
use Rattle.std.proofs.Common.{◌≡◌, ℕ, true, Ok, Err, List, [], ◌∷◌, inl, inr, refl, sym, ◌∙◌, ap, subst}
use Rattle.network_events.specs.plant_model.Types.{As, BorderRow, NetworkParts}
use Rattle.plant_text.specs.Names.{parent_as}
use Rattle.network_events.specs.plant_model.declared.event.BlindEvent.TheVariants.{Solve}
use Rattle.network_events.specs.plant_model.declared.outcome.Outcome.TheVariants as outcome
use Rattle.network_events.specs.plant_model.declared.outcome.Refused.{Refused}
use Rattle.network_events.specs.plant_model.declared.outcome.Refused.TheVariants as refused
use Rattle.network_events.specs.plant_model.Blind.{BlindHappened, BlindState, BlindSteps, Nothing, show_nothing}
use Rattle.network_events.specs.plant_model.Deeds as deeds
use Rattle.network_events.specs.plant_model.Element.{Taken}
use Rattle.network_events.specs.plant_model.Events.{has_jobs}
use Rattle.network_events.specs.plant_model.Parent as parent
use Rattle.network_events.specs.plant_model.RealWire.{wire}
use Rattle.network_events.specs.plant_model.Settings.{place}
use Rattle.network_events.specs.plant_model.Solving.{commit, job_found}
use Rattle.network_events.specs.plant_model.State.{Deed, Solves, said, sent_by}
use Rattle.network_events.specs.network_links.Carried.{Carried, flow_of}
use Rattle.network_events.specs.network_links.Flow.{Flow}
use Rattle.network_events.specs.pce_common.Membership.{Membership, Replied, Standing, is_member, with_element, with_parent}
use Rattle.network_events.specs.Answering.{IsAnswer, Sends}
use Rattle.network_events.specs.Giving.{OnlyGrows}
use Rattle.network_events.specs.Standing.{here, state_of}
use Rattle.network_members.specs.pce_element.Blind.{stands_for_nothing}
use Rattle.network_members.specs.Answering.{IsRefusedFor, ParentAnswers}
use Rattle.network_members.specs.Blind.{ElementAnswers, MemberAnswers, nothing_first}
use Rattle.network_members.specs.Tiers.{Become, Tiers, lost_in, members_of, next_by, standing_of}
use Rattle.network_members.specs.Tiers as tiers
use Rattle.network_members.specs.declared.plan.MemberPlan.{MemberPlan}
use Rattle.plant_network.proofs.AnswerLemmas.{element_answer, parent_answer}
use Rattle.network_members.proofs.StepLemmas.{stands_as}
use Rattle.network_events.specs.Moving.{IsKept}
use Rattle.plant_network.specs.Blind.{IsSound, Moves, held, standing, whole}

abbrev Members : Type 0
Members = Membership Nothing Nothing

abbrev Reply : Type 0
Reply = Replied Nothing Nothing

-- ---- it is an answer

module _ (n : NetworkParts) (now : ℕ) (d : As) (k : ℕ) (rows : List BorderRow) (ms : Members) (r : Reply) where
  by_element : ElementAnswers n now d k rows ms r → IsAnswer n d r.outputs ms r.members
  by_element a =
      subst (λ (y : Reply). IsAnswer n d y.outputs ms y.members) (sym a.is)
      (element_answer n ms (place n d) now d k a.held a.down stands_for_nothing true true a.best a.upper a.is_held)

  by_parent : ParentAnswers n k ms r → IsAnswer n parent_as r.outputs ms r.members
  by_parent a = subst (λ (y : Reply). IsAnswer n parent_as y.outputs ms y.members) (sym a.is) (parent_answer n ms k a.held a.answer a.is_held)

  pub member_answer : MemberAnswers n now d k rows ms r → IsAnswer n d r.outputs ms r.members
  member_answer (inl a) = by_element a
  member_answer (inr a) = subst (λ (x : As). IsAnswer n x r.outputs ms r.members) (sym a.0) (by_parent a.1)

-- ---- it is the model's solve

-- what is put into queues, and the deed that it is
record IsDeed (n : NetworkParts) (d : As) (k : ℕ) (rows : List BorderRow) (ms ms' : Members) (f f' : Flow) : Type 0 where
  deeds_are : List (Deed Nothing)
  steps : BlindSteps wire n (state_of ms f) (Solve d k rows) (record { answer = Ok outcome.Done; state = state_of ms' f'; deeds = deeds_are })
  says : f'.said ≡ said wire deeds_are

module _ (n : NetworkParts) (d : As) (k : ℕ) (rows : List BorderRow) (ms ms' : Members) (r : Reply) (f f' : Flow) (jobs : has_jobs n d ≡ true) (next : ms' ≡ r.members) where
  element_deed : ElementAnswers n f.clock d k rows ms r → Sends n show_nothing d r.outputs ms' f f' → IsDeed n d k rows ms ms' f f'
  element_deed a sends = record {
    deeds_are = Solves d k t.outputs t.element.keys.issued ∷ [];
    steps = inl (inr (inr (inl (
      jobs,
      record {
        upper = a.upper;
        held = a.held;
        is_held = a.is_held;
        down = a.down;
        ready = a.ready;
        best = a.best;
        joined = a.joined;
        is = ap (λ (s : BlindState). let h : BlindHappened = record { answer = Ok outcome.Done; state = s; deeds = Solves d k t.outputs t.element.keys.issued ∷ [] } in h) state_is;
      },
    ))));
    says = sends.said ∙ ap (λ (y : Reply). sent_by wire d y.outputs) a.is;
  }
    where
      t : Taken Nothing Nothing
      t = commit wire (place n d) (k, a.held) a.down f.clock stands_for_nothing (job_found true true a.best) (ms.elements d)

      state_is : state_of ms' f' ≡ deeds.puts Nothing Nothing wire n show_nothing d t.outputs (state_of (with_element d t.element ms) f)
      state_is =
          sends.state
          ∙ ap (λ (m : Members). deeds.puts Nothing Nothing wire n show_nothing d r.outputs (state_of m f)) next
          ∙ ap (λ (y : Reply). deeds.puts Nothing Nothing wire n show_nothing d y.outputs (state_of y.members f)) a.is

  parent_deed : ParentAnswers n k ms r → d ≡ parent_as → Sends n show_nothing d r.outputs ms' f f' → IsDeed n d k rows ms ms' f f'
  parent_deed a upper sends = record {
    deeds_are = Solves parent_as k g.outputs [] ∷ [];
    steps = inl (inr (inr (inr (
      jobs,
      upper,
      record {
        held = a.held;
        is_held = a.is_held;
        ready = a.ready;
        answer = a.answer;
        solves = a.solves;
        is = ap (λ (s : BlindState). let h : BlindHappened = record { answer = Ok outcome.Done; state = s; deeds = Solves parent_as k g.outputs [] ∷ [] } in h) state_is;
      },
    ))));
    says = sends.said ∙ ap (λ (y : Reply). sent_by wire d y.outputs) a.is ∙ ap (λ (x : As). sent_by wire x g.outputs) upper;
  }
    where
      g : parent.ParentTaken
      g = parent.commit wire (k, a.held) a.answer ms.parent

      state_is : state_of ms' f' ≡ deeds.puts Nothing Nothing wire n show_nothing parent_as g.outputs (state_of (with_parent g.parent ms) f)
      state_is =
          sends.state
          ∙ ap (λ (m : Members). deeds.puts Nothing Nothing wire n show_nothing d r.outputs (state_of m f)) next
          ∙ ap (λ (y : Reply). deeds.puts Nothing Nothing wire n show_nothing d y.outputs (state_of y.members f)) a.is
          ∙ ap (λ (x : As). deeds.puts Nothing Nothing wire n show_nothing x g.outputs (state_of (with_parent g.parent ms) f)) upper

  member_deed : MemberAnswers n f.clock d k rows ms r → Sends n show_nothing d r.outputs ms' f f' → IsDeed n d k rows ms ms' f f'
  member_deed (inl a) sends = element_deed a sends
  member_deed (inr a) sends = parent_deed a.1 a.0 sends

-- ---- it is refused

refused_steps : (n : NetworkParts) (d : As) (k : ℕ) (rows : List BorderRow) (ms : Members) (f : Flow) (s : BlindState) (why : Refused) → s ≡ state_of ms f → IsRefusedFor n d k ms why →
    BlindSteps wire n (state_of ms f) (Solve d k rows) (record { answer = Err why; state = s; deeds = [] })
refused_steps n d k rows ms f s why same is = go why is
  where
    told_so : (w : Refused) → (let h : BlindHappened = record { answer = Err w; state = s; deeds = [] } in h) ≡ (let h : BlindHappened = record { answer = Err w; state = state_of ms f; deeds = [] } in h)
    told_so w = ap (λ (x : BlindState). let h : BlindHappened = record { answer = Err w; state = x; deeds = [] } in h) same

    go : (w : Refused) → IsRefusedFor n d k ms w → BlindSteps wire n (state_of ms f) (Solve d k rows) (record { answer = Err w; state = s; deeds = [] })
    go refused.NoSuchPeer none = inl (inl (none, told_so refused.NoSuchPeer))
    go refused.NoSuchJob none = inl (inr (inl (none.0, none.1, told_so refused.NoSuchJob)))
    go refused.NoMemory none = inr (refl, told_so refused.NoMemory)
    go refused.GenerationsFull none = absurd none
    go (refused.NotHolder holder) none = absurd none
    go refused.NothingToCarry none = absurd none

-- ---- what is planned, and then done

module _ (t t1 : Tiers Nothing Nothing) (c : Carried) (d : As) (k : ℕ) (rows : List BorderRow) (now : ℕ) (sound : IsSound (held t c)) (same : Become nothing_first t (members_of nothing_first t) (lost_in t) t1) where
  pub kept_still : IsKept (standing (held t1 c))
  kept_still = subst (λ (s : Standing Nothing Nothing). IsKept (here s (flow_of c))) (sym (stands_as nothing_first t t1 (members_of nothing_first t) (lost_in t) same)) sound.kept

  pub planned_err : (why : Refused) → IsRefusedFor t.network d k (members_of nothing_first t) why → Moves (held t c) (Solve d k rows) (Err why) (held t1 c)
  planned_err why is = record {
    stepped = record {
      network = same.network;
      deeds = [];
      steps = refused_steps t.network d k rows (members_of nothing_first t) (flow_of c) (whole (held t1 c)).state why (ap (λ (ms : Members). state_of ms (flow_of c)) same.seen) is;
      accepted = tt;
      refused = refl;
    };
    kept = kept_still;
  }

  module _ {W : Type 0} {D : Type 0} (p : MemberPlan W Nothing Nothing D) (there : has_jobs t.network d ≡ true)
      (answers : MemberAnswers t.network now d k rows (members_of nothing_first t) (record { members = next_by nothing_first t1 p; outputs = tiers.sent_by p })) where
    pub plan_member : is_member t1.network d ≡ true
    plan_member = ap (λ (n : NetworkParts). is_member n d) same.network ∙ there

    pub plan_answers : IsAnswer t1.network d (tiers.sent_by p) (members_of nothing_first t1) (next_by nothing_first t1 p)
    plan_answers =
        subst (λ (n : NetworkParts). IsAnswer n d (tiers.sent_by p) (members_of nothing_first t1) (next_by nothing_first t1 p)) (sym same.network)
        (subst (λ (ms : Members). IsAnswer t.network d (tiers.sent_by p) ms (next_by nothing_first t1 p)) (sym same.seen)
        (member_answer t.network now d k rows (members_of nothing_first t) (record { members = next_by nothing_first t1 p; outputs = tiers.sent_by p }) answers))

    module _ (t' : Tiers Nothing Nothing) (c' : Carried) (kept : IsKept (standing (held t' c'))) where
      pub plan_done : now ≡ (flow_of c).clock → standing_of nothing_first t' ≡ record (standing_of nothing_first t1) { seen = next_by nothing_first t1 p } → Sends t1.network show_nothing d (tiers.sent_by p) (members_of nothing_first t') (flow_of c) (flow_of c') →
          Moves (held t c) (Solve d k rows) (Ok outcome.Done) (held t' c')
      plan_done clock next sends =
          let r : Reply = record { members = next_by nothing_first t1 p; outputs = tiers.sent_by p } in
          let deed : IsDeed t.network d k rows (members_of nothing_first t) (members_of nothing_first t') (flow_of c) (flow_of c') =
          member_deed t.network d k rows (members_of nothing_first t) (members_of nothing_first t') r (flow_of c) (flow_of c') there (ap (λ (s : Standing Nothing Nothing). s.seen) next)
          (subst (λ (i : ℕ). MemberAnswers t.network i d k rows (members_of nothing_first t) r) clock answers)
          (subst (λ (n : NetworkParts). Sends n show_nothing d (tiers.sent_by p) (members_of nothing_first t') (flow_of c) (flow_of c')) same.network sends) in
          record {
            stepped = record { network = ap (λ (s : Standing Nothing Nothing). s.network) next ∙ same.network; deeds = deed.deeds_are; steps = deed.steps; accepted = deed.says; refused = tt };
            kept = kept;
          }

      pub plan_lacks : standing_of nothing_first t' ≡ standing_of nothing_first t1 → OnlyGrows (flow_of c) (flow_of c') → Moves (held t c) (Solve d k rows) (Err refused.NoMemory) (held t' c')
      plan_lacks left grows = record {
        stepped = record {
          network = ap (λ (s : Standing Nothing Nothing). s.network) left ∙ same.network;
          deeds = [];
          steps = refused_steps t.network d k rows (members_of nothing_first t) (flow_of c) (whole (held t' c')).state refused.NoMemory
              (ap (λ (f : Flow). state_of (members_of nothing_first t') f) grows.same ∙ ap (λ (ms : Members). state_of ms (flow_of c)) (ap (λ (s : Standing Nothing Nothing). s.seen) left ∙ same.seen)) tt;
          accepted = tt;
          refused = ap (λ (f : Flow). f.said) grows.same;
        };
        kept = kept;
      }
