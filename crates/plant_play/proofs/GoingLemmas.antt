-- A network that goes on by itself: what is due is possible, and what is due no more is done.
use Rattle.std.proofs.Common.{◌≡◌, ◌<◌, ◌+◌, ℕ, suc, arith, Bool, true, false, cond, length, List, [], ◌∷◌, Option, Some, None, Err, inl, inr, sym, ◌∙◌, subst, ap, refl}
use Rattle.plant_network.specs.plant_model.Types.{As, NetworkParts}
use Rattle.disclosure.specs.Shown.{open_of}
use Rattle.plant_network.specs.plant_model.declared.event.Event.{Event}
use Rattle.plant_network.specs.plant_model.declared.event.Event.TheVariants as event
use Rattle.plant_network.specs.plant_model.declared.outcome.Refused.TheVariants as refused
use Rattle.plant_network.specs.plant_model.Blind.{is_accepted}
use Rattle.plant_network.specs.plant_model.Events.{Answered}
use Rattle.plant_network.specs.plant_model.Plant.{Pin, Plant, Segment, Happened, Happens, IsGiven, Run}
use Rattle.plant_network.specs.plant_model.RealWire.{wire}
use Rattle.plant_network.specs.Due.{IsLeast, IsSettled, inbox_of}
use Rattle.plant_network.proofs.CarryLemmas as carries
use Rattle.plant_network.proofs.InboxLemmas.{take_empty, take_less}
use Rattle.plant_network.specs.Jobs.{CanSolve}
use Rattle.plant_network.specs.Whole.{Stepped, Whole}
use Rattle.std.specs.Prelude.{MatchBool, slice_get}
use Rattle.std.specs.Option.{option_map}
use Rattle.plant_play.specs.declared.events.Due.{Due as DueEvent}
use Rattle.plant_play.specs.declared.events.Due.TheVariants as due
use Rattle.plant_play.specs.declared.going.Until.{Until}
use Rattle.plant_play.specs.declared.showing.Modes.{Modes}
use Rattle.plant_play.specs.Due.{AreDue, IsDue, IsDueTake, jobs_due}
use Rattle.plant_play.specs.Logs.{Told}
use Rattle.plant_play.specs.Making.{DoesAll, DoesSome, IsPossible, Makes, MakesTurn, Refuses, event_of, lacks_memory}
use Rattle.plant_play.specs.Turns.{entries_of}
use Rattle.plant_play.proofs.TurnLemmas.{one_more}

-- ---- an event that is done

-- an event for which memory did not run out happened
pub made : (old : Whole) (e : Event) (answer : Answered) (new : Whole) → Stepped old e answer new → lacks_memory answer ≡ false → Makes old e answer new
made old e answer new st ok = record {
  network = st.network;
  deeds = st.deeds;
  happens = elim st.steps [
    | inl x ↦ x
    | inr x ↦ absurd (let is : answer ≡ Err refused.NoMemory = ap (λ h. h.answer) x.1 in let no : true ≡ false = sym (ap lacks_memory is) ∙ ok in cc)
  ];
  accepted = st.accepted;
  goes = λ given older run. (old.state, run, given, st.steps);
}

-- ---- what is due

-- where none is, the job that is due
pub due_of : (until : Until) (n : NetworkParts) (s : Plant) (r : Option Event) → IsSettled n s → r ≡ option_map (λ (p : As × ℕ). event.Solve p.0 p.1) (slice_get (jobs_due until n s) 0) → IsDue until n s r
due_of until n s r settled is = go (jobs_due until n s) refl
  where
    go : (jobs : List (As × ℕ)) → jobs_due until n s ≡ jobs → IsDue until n s r
    go [] e = subst (λ (x : Option Event). IsDue until n s x) (sym (is ∙ ap (λ (l : List (As × ℕ)). option_map (λ (p : As × ℕ). event.Solve p.0 p.1) (slice_get l 0)) e)) (settled, e)
    go (p ∷ ps) e =
        subst (λ (x : Option Event). IsDue until n s x) (sym (is ∙ ap (λ (l : List (As × ℕ)). option_map (λ (q : As × ℕ). event.Solve q.0 q.1) (slice_get l 0)) e))
        (settled, ap (λ (l : List (As × ℕ)). slice_get l 0) e)

-- ---- what is due is possible

module _ (w : Whole) where
  pub can_carry : (a b : As) → IsLeast w.network w.state (a, b) → IsPossible w (event.Carry a b)
  can_carry a b least h happens = carries.can_carry Pin Segment wire w.network open_of w.state a b least h happens

  pub can_solve : (d : As) (k : ℕ) → CanSolve w d k → IsPossible w (event.Solve d k)
  can_solve d k can h (inl x) = absurd (let no : true ≡ false = sym can.has ∙ x.0 in cc)
  can_solve d k can h (inr (inl x)) = absurd (let no : true ≡ false = sym can.ready ∙ x.1 in cc)
  can_solve d k can h (inr (inr (inl x))) = ap (λ (y : Happened). is_accepted y.answer) x.1.is
  can_solve d k can h (inr (inr (inr x))) = ap (λ (y : Happened). is_accepted y.answer) x.2.is

-- ---- takes

-- After a take that is refused all that was due is done.
pub taken_all : (line : ℕ) (m : Modes) (i : ℕ) (old mid new : Whole) (b0 b1 b2 : Told) (k : ℕ) → DoesSome line m (IsDueTake i) old mid b0 b1 k → Refuses mid (event.Take i) new b1 b2 →
    DoesSome line m (IsDueTake i) old new b0 b2 k × (inbox_of i new.state ≡ [])
taken_all line m i old mid new b0 b1 b2 k done refuses =
    let none = take_empty Pin Segment wire mid.network open_of i mid.state (record { answer = Err refuses.why; state = new.state; deeds = refuses.makes.deeds }) refuses.makes.happens refl in
    let same : new.state ≡ mid.state = none.state in (
      record {
        network = refuses.makes.network ∙ done.network;
        turns = done.turns;
        so_many = done.so_many;
        due = subst (λ (s : Plant). AreDue (IsDueTake i) m old.network old.state done.turns s) (sym same) done.due;
        goes = λ older run. subst (λ (s : Plant). Run wire old.network (entries_of done.turns older) s) (sym same) (done.goes older run);
        tells = refuses.silent ∙ done.tells;
      },
      subst (λ (s : Plant). inbox_of i s ≡ []) (sym same) none.empty,
    )

-- After a take that is accepted less is left.
pub taken_less : (line : ℕ) (m : Modes) (i : ℕ) (mid new : Whole) (b1 b2 : Told) → MakesTurn line m mid (event.Take i) new b1 b2 → length (inbox_of i new.state) < length (inbox_of i mid.state)
taken_less line m i mid new b1 b2 makes =
    let t = makes.turn in
    let h : Happened = record { answer = t.entry.answer; state = t.after; deeds = t.entry.deeds } in
    let is : Happens wire mid.network mid.state (event.Take i) h = subst (λ (e : Event). Happens wire mid.network mid.state e h) makes.event makes.is_turn.happens in
    subst (λ (s : Plant). length (inbox_of i s) < length (inbox_of i mid.state)) (sym makes.ends) (take_less Pin Segment wire mid.network open_of i mid.state h is makes.accepted)

-- One take more, or the end.
pub one_take : (line : ℕ) (m : Modes) (i : ℕ) (old mid new : Whole) (b0 b1 b2 : Told) (taken : Bool) → (k : ℕ) × DoesSome line m (IsDueTake i) old mid b0 b1 k →
    MatchBool taken (MakesTurn line m mid (event.Take i) new b1 b2) (Refuses mid (event.Take i) new b1 b2) →
    ((k : ℕ) × DoesSome line m (IsDueTake i) old new b0 b2 k) × (taken ≡ false → inbox_of i new.state ≡ [])
one_take line m i old mid new b0 b1 b2 true done makes =
    ((done.0 + 1, one_more line m (IsDueTake i) old mid new (event.Take i) b0 b1 b2 done.0 done.1 refl tt makes), λ e. absurd (let no : true ≡ false = e in cc))
one_take line m i old mid new b0 b1 b2 false done refuses = let all = taken_all line m i old mid new b0 b1 b2 done.0 done.1 refuses in ((done.0, all.0), λ e. all.1)

falls : (line : ℕ) (m : Modes) (i : ℕ) (mid new : Whole) (b1 b2 : Told) (taken : Bool) → MatchBool taken (MakesTurn line m mid (event.Take i) new b1 b2) (Refuses mid (event.Take i) new b1 b2) →
    cond taken (suc (length (inbox_of i new.state))) 0 < suc (length (inbox_of i mid.state))
falls line m i mid new b1 b2 true makes = let less = taken_less line m i mid new b1 b2 makes in omega arith
falls line m i mid new b1 b2 false refuses = omega arith

pub take_falls : (line : ℕ) (m : Modes) (i : ℕ) (mid new : Whole) (b1 b2 : Told) (was taken : Bool) → was ≡ true → MatchBool taken (MakesTurn line m mid (event.Take i) new b1 b2) (Refuses mid (event.Take i) new b1 b2) →
    cond taken (suc (length (inbox_of i new.state))) 0 < cond was (suc (length (inbox_of i mid.state))) 0
take_falls line m i mid new b1 b2 was taken e makes =
    subst (λ (b : Bool). cond taken (suc (length (inbox_of i new.state))) 0 < cond b (suc (length (inbox_of i mid.state))) 0) (sym e) (falls line m i mid new b1 b2 taken makes)

-- takes, carries and solves are given nothing
pub given_nothing : (d : DueEvent) → IsGiven (event_of d)
given_nothing (due.Take i) = tt
given_nothing (due.Carry a b) = tt
given_nothing (due.Solve d k) = tt

-- ---- what was due, in a network that stays the same

pub one_due : (line : ℕ) (m : Modes) (until : Until) (old mid new : Whole) (e : Event) (b0 b1 b2 : Told) (k : ℕ) → DoesSome line m (IsDue until old.network) old mid b0 b1 k → IsDue until mid.network mid.state (Some e) →
    IsGiven e → MakesTurn line m mid e new b1 b2 → DoesSome line m (IsDue until old.network) old new b0 b2 (k + 1)
one_due line m until old mid new e b0 b1 b2 k done due given makes =
    one_more line m (IsDue until old.network) old mid new e b0 b1 b2 k done (subst (λ (n : NetworkParts). IsDue until n mid.state (Some e)) done.network due) given makes

pub none_due : (line : ℕ) (m : Modes) (until : Until) (old new : Whole) (b0 b1 : Told) (k : ℕ) → DoesSome line m (IsDue until old.network) old new b0 b1 k → IsDue until new.network new.state None → DoesAll line m (IsDue until old.network) old new b0 b1
none_due line m until old new b0 b1 k done due = record { count = k; some = done; over = subst (λ (n : NetworkParts). IsDue until n new.state None) done.network due }

-- What is due, and is possible, was accepted.
pub made_due : (line : ℕ) (m : Modes) (until : Until) (old mid new : Whole) (e : Event) (b0 b1 b2 : Told) (k : ℕ) (taken : Bool) → DoesSome line m (IsDue until old.network) old mid b0 b1 k → IsDue until mid.network mid.state (Some e) →
    IsPossible mid e → IsGiven e → MatchBool taken (MakesTurn line m mid e new b1 b2) (Refuses mid e new b1 b2) → DoesSome line m (IsDue until old.network) old new b0 b2 (k + 1)
made_due line m until old mid new e b0 b1 b2 k true done due can given makes = one_due line m until old mid new e b0 b1 b2 k done due given makes
made_due line m until old mid new e b0 b1 b2 k false done due can given refuses =
    absurd (let h : Happened = record { answer = Err refuses.why; state = new.state; deeds = refuses.makes.deeds } in let no : false ≡ true = can h refuses.makes.happens in cc)
