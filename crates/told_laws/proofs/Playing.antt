-- Runs of the same accepted events are one, entry by entry from the oldest on.
use Rattle.std.proofs.Common.{◌≡◌, ◌∙◌, Bool, true, false, cond, List, [], ◌∷◌, ◌++◌, sym, ap, subst, inl, inr, refl}
use Rattle.plant_laws.specs.plant_model.Types.{NetworkParts}
use Rattle.plant_laws.specs.plant_model.declared.event.Event.{Event}
use Rattle.plant_laws.specs.plant_model.Wire.{Codec}
use Rattle.plant_laws.specs.plant_model.Blind.{is_accepted}
use Rattle.plant_laws.specs.plant_model.Plant.{Entry, Happened, Happens, Plant, Run, Steps}
use Rattle.plant_laws.specs.plant_model.RealWire.{wire}
use Rattle.plant_laws.proofs.Blind.OneStep.{steps_are_one}
use Rattle.told_laws.specs.Playing.{AreAccepted, AreOne, PartsArePlayed, RecordsArePlayed, RunsAreOne, events_in}
use Rattle.told_laws.specs.Saying.{SayTheSame}
use Rattle.told_laws.specs.Telling.{is_idle, is_told, told}
use Rattle.told_laws.proofs.Saying.{told_says_all}
use Rattle.told_laws.proofs.Telling.{told_accepted, told_is_run}

first_same : (u v : Event) (us vs : List Event) → (u ∷ us) ≡ (v ∷ vs) → u ≡ v
first_same u v us vs e = cc

rest_same : (u v : Event) (us vs : List Event) → (u ∷ us) ≡ (v ∷ vs) → us ≡ vs
rest_same u v us vs e = cc

none_first : {X : Type 0} → (u : Event) (us : List Event) → [] ≡ (u ∷ us) → X
none_first u us e = cc

-- ---- two runs

-- what was accepted happened
happens : (c : Codec) (n : NetworkParts) (s : Plant) (e : Event) (h : Happened) → Steps c n s e h → is_accepted h.answer ≡ true → Happens c n s e h
happens c n s e h (inl is) fine = is
happens c n s e h (inr none) fine = let no : false ≡ true = ap (λ (k : Happened). is_accepted k.answer) (sym none.1) ∙ fine in cc

abbrev happened : Entry → Plant → Happened
happened e s = record { answer = e.answer; state = s; deeds = e.deeds }

abbrev entry : Event → Happened → Entry
entry v h = record { event = v; answer = h.answer; deeds = h.deeds }

pub runs_are_one : RunsAreOne
runs_are_one c n network [] [] s t run other fine also same = record { entries = refl; state = other ∙ sym run }
runs_are_one c n network [] (f ∷ fs) s t run other fine also same = none_first f.event (events_in fs) (sym same)
runs_are_one c n network (e ∷ es) [] s t run other fine also same = none_first e.event (events_in es) same
runs_are_one c n network (e ∷ es) (f ∷ fs) s t run other fine also same =
    let event : f.event ≡ e.event = first_same f.event e.event (events_in fs) (events_in es) same in
    let below : AreOne es fs run.0 other.0 = runs_are_one c n network es fs run.0 other.0 run.1 other.1 fine.1 also.1 (rest_same f.event e.event (events_in fs) (events_in es) same) in
    let there : Happens c n other.0 f.event (happened f t) = happens c n other.0 f.event (happened f t) other.3 also.0 in
    let here : Happens c n run.0 e.event (happened f t) =
    subst (λ (v : Event). Happens c n run.0 v (happened f t)) event (subst (λ (u : Plant). Happens c n u f.event (happened f t)) below.state there) in
    let one : happened f t ≡ happened e s = steps_are_one c n network es run.0 run.1 e.event (happened f t) (happened e s) here (happens c n run.0 e.event (happened e s) run.3 fine.0) in
    record {
      entries =
          ap (λ (v : Event). entry v (happened f t) ∷ fs) event ∙ ap (λ (h : Happened). entry e.event h ∷ fs) one ∙ ap (λ (l : List Entry). e ∷ l) below.entries;
      state = ap (λ (h : Happened). h.state) one;
    }

-- ---- a record that is played

more_accepted : (e : Entry) (older : List Entry) → AreAccepted (told older) → (b : Bool) → is_told e.event e.answer ≡ b → AreAccepted (cond b (e ∷ told older) (told older))
more_accepted e older below true is = (told_accepted (is_accepted e.answer) (is_idle e.event e.answer) is, below)
more_accepted e older below false is = below

all_accepted : (es : List Entry) → AreAccepted (told es)
all_accepted [] = tt
all_accepted (e ∷ older) = more_accepted e older (all_accepted older) (is_told e.event e.answer) refl

pub records_are_played : RecordsArePlayed
records_are_played n network es fs s t run other fine same =
    let one : AreOne (told es) fs s t = runs_are_one wire n network (told es) fs s t (told_is_run n es s run) other (all_accepted es) fine same in
    record {
      entries = one.entries;
      state = one.state;
      says = subst (λ (l : List Entry). SayTheSame wire n es l) (sym one.entries) (told_says_all n es s run);
    }

-- ---- the first of it

-- a moment of which just these events are told
record Moment (n : NetworkParts) (es : List Entry) (part : List Event) : Type 0 where
  pub later : List Entry
  pub moment : List Entry
  pub is : es ≡ later ++ moment
  pub state : Plant
  pub run : Run wire n moment state
  pub tells : part ≡ events_in (told moment)

behind : (n : NetworkParts) (e : Entry) (es : List Entry) (part : List Event) → Moment n es part → Moment n (e ∷ es) part
behind n e es part m = record { later = e ∷ m.later; moment = m.moment; is = ap (λ (l : List Entry). e ∷ l) m.is; state = m.state; run = m.run; tells = m.tells }

moment_at : (n : NetworkParts) (es : List Entry) (s : Plant) → Run wire n es s → (rest part : List Event) → events_in (told es) ≡ rest ++ part → Moment n es part
moment_at n es s run [] part is = record { later = []; moment = es; is = refl; state = s; run = run; tells = sym is }
moment_at n [] s run (v ∷ rest) part is = none_first v (rest ++ part) is
moment_at n (e ∷ es) s run (v ∷ rest) part is =
    go (is_told e.event e.answer) (λ same. moment_at n es run.0 run.1 rest part same) (λ same. moment_at n es run.0 run.1 (v ∷ rest) part same) is
  where
    go : (b : Bool) → (events_in (told es) ≡ rest ++ part → Moment n es part) → (events_in (told es) ≡ v ∷ (rest ++ part) → Moment n es part) →
        events_in (cond b (e ∷ told es) (told es)) ≡ v ∷ (rest ++ part) → Moment n (e ∷ es) part
    go true is_first goes_on same = behind n e es part (is_first (rest_same e.event v (events_in (told es)) (rest ++ part) same))
    go false is_first goes_on same = behind n e es part (goes_on same)

pub parts_are_played : PartsArePlayed
parts_are_played n network es fs s t run other fine rest same =
    let m : Moment n es (events_in fs) = moment_at n es s run rest (events_in fs) same in
    record {
      later = m.later;
      moment = m.moment;
      is = m.is;
      state = m.state;
      run = m.run;
      plays = records_are_played n network m.moment fs m.state t m.run other fine m.tells;
    }
