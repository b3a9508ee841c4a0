-- A drain that hands out nothing changes nothing.
use Rattle.std.proofs.Common.{◌≡◌, ◌∙◌, ℕ, Bool, true, false, cond, ◌==◌, List, [], ◌∷◌, Option, Some, None, Ok, sym, ap, subst, inl, inr, refl}
use Rattle.std.proofs.lemmas.Bool.{eqb-true}
use mathlib.Core.Path.{fun_ext}
use Rattle.disclosure.specs.Shown.{open_of}
use Rattle.pcep_framing.specs.Frames.{joined}
use Rattle.plant_laws.specs.plant_model.Types.{NetworkParts}
use Rattle.plant_laws.specs.plant_model.declared.event.Event.TheVariants as event
use Rattle.plant_laws.specs.plant_model.declared.outcome.Outcome.TheVariants.{Drained}
use Rattle.plant_laws.specs.plant_model.declared.outcome.Refused.TheVariants.{NotHolder}
use Rattle.plant_laws.specs.plant_model.Names.{set_number}
use Rattle.plant_laws.specs.plant_model.Wire.{Bytes, Codec}
use Rattle.plant_laws.specs.plant_model.Blind.{is_accepted}
use Rattle.plant_laws.specs.plant_model.State.{Access, Connection, Hands}
use Rattle.plant_laws.specs.plant_model.Deeds.{on_connection, with_access}
use Rattle.plant_laws.specs.plant_model.Events as events
use Rattle.plant_laws.specs.plant_model.Events.{is_down}
use Rattle.plant_laws.specs.plant_model.Plant.{Happened, Pin, Plant, PlantDeed, Segment, Steps}
use Rattle.run_laws.specs.Outlets.{handed_in}
use Rattle.run_laws.proofs.PeerLemmas.Growing.{view_of}
use Rattle.told_laws.proofs.Waiting.{AllHave, AllWait, Waits, WritesOctets, none_joined}

differ : {X : Type 0} → false ≡ true → X
differ e = cc

-- a value written where it stands
number_same : {A : Type 0} → (i : ℕ) (v : A) (f : ℕ → A) → v ≡ f i → set_number i v f ≡ f
number_same i v f is = fun_ext (λ j. go j (i == j) refl)
  where
    go : (j : ℕ) (b : Bool) → (i == j) ≡ b → cond b v (f j) ≡ f j
    go j true at = is ∙ ap f (eqb-true i j at)
    go j false at = refl

some_is : (k l : Connection) → (let p : Option Connection = Some k in let q : Option Connection = Some l in p ≡ q) → k ≡ l
some_is k l e = cc

-- nothing waits, so nothing is taken away
drained_same : (a : Access) (x : Connection) → a.connection ≡ Some x → x.out ≡ [] → on_connection events.drained a ≡ a
drained_same a x at none = go a.connection at
  where
    go : (o : Option Connection) → o ≡ Some x → on_connection events.drained (record { opened = a.opened; connection = o }) ≡ record { opened = a.opened; connection = o }
    go None is = refl
    go (Some k) is =
        let out : [] ≡ k.out = sym (ap (λ (y : Connection). y.out) (some_is k x is) ∙ none) in
        ap (λ (q : List Bytes). let r : Access = record { opened = a.opened; connection = Some (record k { out = q }) } in r) out

pub record Idles (i : ℕ) (s : Plant) (h : Happened) : Type 0 where
  pub state : h.state ≡ s
  pub deeds : h.deeds ≡ Hands i [] ∷ []

module _ (c : Codec) (n : NetworkParts) (writes : WritesOctets c) where
  abbrev MayIdle : ℕ → Plant → Happened → Type 0
  MayIdle i s h = is_accepted h.answer ≡ true → handed_in h.answer ≡ [] → Idles i s h

  abbrev handed : ℕ → Plant → Connection → Happened
  handed i s x = record { answer = Ok (Drained (joined x.out) (is_down x.session.phase)); state = with_access Pin Segment c n open_of i events.drained s; deeds = Hands i (joined x.out) ∷ [] }

  state_same : (i : ℕ) (s : Plant) (x : Connection) → (s.accesses i).connection ≡ Some x → x.out ≡ [] → with_access Pin Segment c n open_of i events.drained s ≡ s
  state_same i s x at none =
      ap (λ (f : ℕ → Access). let t : Plant = record s { accesses = f } in t)
      (number_same i (on_connection events.drained (s.accesses i)) s.accesses (drained_same (s.accesses i) x at none))

  handed_idles : (i : ℕ) (s : Plant) (x : Connection) → AllWait c n writes s → (s.accesses i).connection ≡ Some x → joined x.out ≡ [] → Idles i s (handed i s x)
  handed_idles i s x all at none =
      let have : AllHave x.out = subst (λ (o : Option Connection). Waits (view_of o)) at (all i) in
      record { state = state_same i s x at (none_joined x.out have none); deeds = ap (λ (b : Bytes). let ds : List PlantDeed = Hands i b ∷ [] in ds) none }

  drain_idles : (i holder : ℕ) (s : Plant) → AllWait c n writes s → MayIdle i s (events.drain Pin Segment c n open_of i holder s)
  drain_idles i holder s all = go (s.accesses i).connection refl
    where
      held : (x : Connection) → (s.accesses i).connection ≡ Some x → (b : Bool) → MayIdle i s (cond b (handed i s x) (events.refused Pin Segment c n open_of (NotHolder x.holder) s))
      held x at true = λ fine none. handed_idles i s x all at none
      held x at false = λ fine none. differ fine

      go : (o : Option Connection) → (s.accesses i).connection ≡ o → MayIdle i s (events.drain_open Pin Segment c n open_of i holder s o)
      go None at = λ fine none. differ fine
      go (Some x) at = held x at (x.holder == holder)

  -- one that was accepted, and handed out nothing
  pub step_idles : (i holder : ℕ) (s : Plant) (h : Happened) → AllWait c n writes s → Steps c n s (event.Drain i holder) h → MayIdle i s h
  step_idles i holder s h all (inl is) = subst (MayIdle i s) (sym is) (drain_idles i holder s all)
  step_idles i holder s h all (inr none) = subst (MayIdle i s) (sym none.1) (λ fine nothing. differ fine)
