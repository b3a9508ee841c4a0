-- First parts of what is told of a run.
use Rattle.std.proofs.Common.{◌≡◌, ◌∙◌, Bool, true, false, cond, List, [], ◌∷◌, ◌++◌, reverse, refl, sym, ap, subst}
use Rattle.std.proofs.lemmas.List.{reverse-append, reverse-reverse}
use Rattle.plant_text.specs.declared.settings.NetworkParts.{NetworkParts}
use Rattle.plant_network.specs.plant_model.declared.event.Event.{Event}
use Rattle.plant_network.specs.plant_model.Blind.{is_accepted}
use Rattle.plant_network.specs.plant_model.Plant.{Entry, Plant, Run}
use Rattle.plant_network.specs.plant_model.RealWire.{wire}
use Rattle.told_laws.specs.Playing.{AreAccepted, events_in}
use Rattle.told_laws.specs.Telling.{is_idle, is_told, told}
use Rattle.told_laws.proofs.Telling.{told_accepted}
use Rattle.record_laws.specs.Days.{events_by}

-- ---- one order and the other

by_newest : (es : List Entry) → events_in es ≡ reverse (events_by es)
by_newest [] = refl
by_newest (e ∷ es) = ap (λ (l : List Event). e.event ∷ l) (by_newest es) ∙ sym (reverse-append (events_by es) (e.event ∷ []))

by_oldest : (es : List Entry) → events_by es ≡ reverse (events_in es)
by_oldest es = sym (reverse-reverse (events_by es)) ∙ ap reverse (sym (by_newest es))

pub newest_append : (xs ys : List Entry) → events_in (xs ++ ys) ≡ events_in xs ++ events_in ys
newest_append [] ys = refl
newest_append (e ∷ xs) ys = ap (λ (l : List Event). e.event ∷ l) (newest_append xs ys)

-- ---- the entries of first events

pub record IsSplit (es : List Entry) (firsts : List Event) : Type 0 where
  pub later : List Entry
  pub entries : List Entry
  pub is : es ≡ later ++ entries
  pub events : events_by entries ≡ firsts

none_first : {X : Type 0} (v : Event) (vs : List Event) → [] ≡ (v ∷ vs) → X
none_first v vs e = cc

rest_same : (u v : Event) (us vs : List Event) → (u ∷ us) ≡ (v ∷ vs) → us ≡ vs
rest_same u v us vs e = cc

split_newest : (es : List Entry) (rest firsts : List Event) → events_in es ≡ rest ++ firsts → IsSplit es (reverse firsts)
split_newest es [] firsts is = record { later = []; entries = es; is = refl; events = by_oldest es ∙ ap reverse is }
split_newest [] (v ∷ rest) firsts is = none_first v (rest ++ firsts) is
split_newest (e ∷ es) (v ∷ rest) firsts is =
    let below : IsSplit es (reverse firsts) = split_newest es rest firsts (rest_same e.event v (events_in es) (rest ++ firsts) is) in
    record { later = e ∷ below.later; entries = below.entries; is = ap (λ (l : List Entry). e ∷ l) below.is; events = below.events }

pub split_at : (es : List Entry) (firsts rest : List Event) → events_by es ≡ firsts ++ rest → IsSplit es firsts
split_at es firsts rest is =
    subst (IsSplit es) (reverse-reverse firsts) (split_newest es (reverse rest) (reverse firsts) (by_newest es ∙ ap reverse is ∙ reverse-append firsts rest))

-- ---- of a run

pub record RunsTo (n : NetworkParts) (es : List Entry) : Type 0 where
  pub state : Plant
  pub run : Run wire n es state

pub runs_to : (n : NetworkParts) (later es : List Entry) (s : Plant) → Run wire n (later ++ es) s → RunsTo n es
runs_to n [] es s run = record { state = s; run = run }
runs_to n (e ∷ later) es s run = runs_to n later es run.0 run.1

accepted_back : (later es : List Entry) → AreAccepted (later ++ es) → AreAccepted es
accepted_back [] es all = all
accepted_back (e ∷ later) es all = accepted_back later es all.1

told_are : (es : List Entry) → AreAccepted (told es)
told_are [] = tt
told_are (e ∷ es) = go (is_told e.event e.answer) refl (told_are es)
  where
    go : (b : Bool) → is_told e.event e.answer ≡ b → AreAccepted (told es) → AreAccepted (cond b (e ∷ told es) (told es))
    go true is below = (told_accepted (is_accepted e.answer) (is_idle e.event e.answer) is, below)
    go false is below = below

pub split_accepted : (es later entries : List Entry) → told es ≡ later ++ entries → AreAccepted entries
split_accepted es later entries is = accepted_back later entries (subst AreAccepted is (told_are es))
