-- What is not told changes nothing and says nothing, so what is told is a run.
use Rattle.std.proofs.Common.{◌≡◌, ◌⊎◌, ℕ, Bool, true, false, cond, not, ◌&&◌, List, [], ◌∷◌, sym, subst, inl, inr, refl}
use Rattle.disclosure.specs.Shown.{open_of}
use Rattle.plant_laws.specs.plant_model.Types.{NetworkParts}
use Rattle.plant_laws.specs.plant_model.declared.event.Event.{Event}
use Rattle.plant_laws.specs.plant_model.declared.event.Event.TheVariants as event
use Rattle.plant_laws.specs.plant_model.Names.{is_empty}
use Rattle.plant_laws.specs.plant_model.Wire.{Codec}
use Rattle.plant_laws.specs.plant_model.Blind.{is_accepted}
use Rattle.plant_laws.specs.plant_model.Events.{Answered}
use Rattle.plant_laws.specs.plant_model.State.{Hands}
use Rattle.plant_laws.specs.plant_model.Plant.{Entry, Happened, Pin, Plant, Run, Segment, Steps}
use Rattle.plant_laws.specs.plant_model.RealWire.{wire}
use Rattle.plant_laws.proofs.Runs.Refused as refusing
use Rattle.plant_laws.proofs.Runs.Refused.{refused_same}
use Rattle.run_laws.specs.Outlets.{handed_in}
use Rattle.told_laws.specs.Telling.{ToldIsRun, is_idle, is_told, told}
use Rattle.told_laws.proofs.Idling.{Idles, step_idles}
use Rattle.told_laws.proofs.Waiting.{AllWait, WritesOctets, all_wait}

-- ---- which entries are told

pub told_accepted : (a i : Bool) → (a && not i) ≡ true → a ≡ true
told_accepted true i is = refl
told_accepted false i is = cc

untold : (a i : Bool) → (a && not i) ≡ false → (a ≡ false) ⊎ ((a ≡ true) × (i ≡ true))
untold true true is = inr (refl, refl)
untold true false is = cc
untold false i is = inl refl

empty_is : (xs : List ℕ) → is_empty xs ≡ true → xs ≡ []
empty_is [] is = refl
empty_is (x ∷ xs) is = cc

pub record IsIdleDrain (e : Event) (r : Answered) : Type 0 where
  pub peer : ℕ
  pub holder : ℕ
  pub event : e ≡ event.Drain peer holder
  pub handed : handed_in r ≡ []

differ : {X : Type 0} → false ≡ true → X
differ e = cc

idle_drain : (e : Event) (r : Answered) → is_idle e r ≡ true → IsIdleDrain e r
idle_drain (event.Drain i holder) r is = record { peer = i; holder = holder; event = refl; handed = empty_is (handed_in r) is }
idle_drain (event.Load d g) r is = differ is
idle_drain (event.Open i holder) r is = differ is
idle_drain (event.Shut i) r is = differ is
idle_drain (event.Feed i bytes) r is = differ is
idle_drain (event.Take i) r is = differ is
idle_drain (event.Carry a b) r is = differ is
idle_drain (event.Break a b) r is = differ is
idle_drain (event.Solve d k) r is = differ is
idle_drain (event.Tick t) r is = differ is

-- ---- what an entry that is not told leaves

pub record Refuses (before : Plant) (e : Entry) (s : Plant) : Type 0 where
  pub answer : is_accepted e.answer ≡ false
  pub state : s ≡ before
  pub deeds : e.deeds ≡ []

pub record DrainsNothing (before : Plant) (e : Entry) (s : Plant) : Type 0 where
  pub answer : is_accepted e.answer ≡ true
  pub drain : IsIdleDrain e.event e.answer
  pub state : s ≡ before
  pub deeds : e.deeds ≡ Hands drain.peer [] ∷ []

abbrev pub LeftOut : Plant → Entry → Plant → Type 0
LeftOut before e s = Refuses before e s ⊎ DrainsNothing before e s

pub state_left : (before : Plant) (e : Entry) (s : Plant) → LeftOut before e s → s ≡ before
state_left before e s (inl x) = x.state
state_left before e s (inr x) = x.state

module _ (c : Codec) (n : NetworkParts) (writes : WritesOctets c) where
  abbrev happened : Entry → Plant → Happened
  happened e s = record { answer = e.answer; state = s; deeds = e.deeds }

  refuses : (before : Plant) (e : Entry) (s : Plant) → Steps c n before e.event (happened e s) → is_accepted e.answer ≡ false → Refuses before e s
  refuses before e s step is =
      let same : refusing.Same Pin Segment c n open_of before (happened e s) = refused_same c n before e.event (happened e s) step is in
      record { answer = is; state = same.state; deeds = same.deeds }

  drains_nothing : (before : Plant) (e : Entry) (s : Plant) → AllWait c n writes before → Steps c n before e.event (happened e s) → is_accepted e.answer ≡ true → IsIdleDrain e.event e.answer → DrainsNothing before e s
  drains_nothing before e s all step fine drain =
      let idles : Idles drain.peer before (happened e s) =
      step_idles c n writes drain.peer drain.holder before (happened e s) all (subst (λ (v : Event). Steps c n before v (happened e s)) drain.event step) fine drain.handed in
      record { answer = fine; drain = drain; state = idles.state; deeds = idles.deeds }

  pub left_out : (e : Entry) (older : List Entry) (s : Plant) (run : Run c n (e ∷ older) s) → is_told e.event e.answer ≡ false → LeftOut run.0 e s
  left_out e older s run is = elim (untold (is_accepted e.answer) (is_idle e.event e.answer) is) [
    | inl refused ↦ inl (refuses run.0 e s run.3 refused)
    | inr idle ↦ inr (drains_nothing run.0 e s (all_wait c n writes older run.0 run.1) run.3 idle.0 (idle_drain e.event e.answer idle.1))
  ]

  -- ---- a run

  goes_on : (e : Entry) (older : List Entry) (s : Plant) (run : Run c n (e ∷ older) s) → Run c n (told older) run.0 → (b : Bool) → is_told e.event e.answer ≡ b →
      Run c n (cond b (e ∷ told older) (told older)) s
  goes_on e older s run below true is = (run.0, below, run.2, run.3)
  goes_on e older s run below false is = subst (λ (t : Plant). Run c n (told older) t) (sym (state_left run.0 e s (left_out e older s run is))) below

  pub told_run : (es : List Entry) (s : Plant) → Run c n es s → Run c n (told es) s
  told_run [] s run = run
  told_run (e ∷ older) s run = goes_on e older s run (told_run older run.0 run.1) (is_told e.event e.answer) refl

pub wire_writes : WritesOctets wire
wire_writes m = tt

pub told_is_run : ToldIsRun
told_is_run n es s run = told_run wire n wire_writes es s run
