-- What a history tells of pins, from event to event.
use Rattle.std.proofs.Common.{◌≡◌, ◌≤◌, ◌&&◌, ◌==◌, ℕ, suc, Bool, true, false, cond, List, [], ◌∷◌, ◌++◌, sym, ◌∙◌, ap, subst, refl, inl, inr, arith, Option, Some, None, Ok, Err}
use Rattle.plant_laws.specs.plant_model.Types.{As, NetworkParts}
use Rattle.te_links.specs.Rows.{Rows}
use Rattle.plant_text.specs.Names.{same_as}
use Rattle.plant_laws.specs.plant_model.declared.event.Event.{Event}
use Rattle.plant_laws.specs.plant_model.declared.event.Event.TheVariants as event
use Rattle.plant_laws.specs.plant_model.declared.outcome.Outcome.TheVariants.{Done, Loaded, Drained}
use Rattle.plant_laws.specs.plant_model.Events.{Answered}
use Rattle.plant_laws.specs.plant_model.Names.{set_as}
use Rattle.plant_laws.specs.plant_model.Plant.{Pin, Plant, PlantDeed, Steps}
use Rattle.plant_laws.specs.plant_model.Wire.{Codec}
use Rattle.plant_laws.proofs.Runs.Queues.{same_as_is}
use Rattle.run_laws.specs.PinSteps.{Known, IsKnown, KnowsPins, KnowsLoad, Moves}
use Rattle.run_laws.specs.PinHistories.{HasPin, HistoriesKnowPins, KnownStays, Leads, PinsAreNow, PinsAreOne, Told, known_after, known_in, known_now, loaded_by, or_else, with_event}
use Rattle.run_laws.proofs.PinLemmas.StepLemmas.{steps_know_pins, steps_move}

-- ---- what is known grows

abbrev Grows : Known → Known → Type 0
Grows known more = (d : As) (n : ℕ) (g : Rows) → known d n ≡ Some g → more d n ≡ Some g

event_grows : (known : Known) (e : Told) → Grows known (with_event known e)
event_grows known e d n g is = ap (λ (o : Option Rows). or_else o (loaded_by e.0 e.1 d n)) is

after_grows : (known : Known) (es : List Told) → Grows known (known_after known es)
after_grows known [] d n g is = is
after_grows known (e ∷ es) d n g is = after_grows (with_event known e) es d n g (event_grows known e d n g is)

after_append : (known : Known) (xs ys : List Told) → known_after known (xs ++ ys) ≡ known_after (known_after known xs) ys
after_append known [] ys = refl
after_append known (x ∷ xs) ys = after_append (with_event known x) xs ys

pub known_stays : KnownStays
known_stays s es more d n g is = subst (λ (k : Known). k d n ≡ Some g) (sym (after_append (known_now s) es more)) (after_grows (known_in s es) more d n g is)

knows_more : (known more : Known) (s : Plant) → Grows known more → KnowsPins known s → KnowsPins more s
knows_more known more s grows knows = record {
  current = λ d. grows d (s.current d).number (s.current d).topology (knows.current d);
  pending = λ d h is. grows d h.1.item.pin.number h.1.item.pin.topology (knows.pending d h is);
}

-- ---- from event to event

-- each pin is known, and no number above the current one is
record Stands (known : Known) (s : Plant) : Type 0 where
  pub knows : KnowsPins known s
  pub below : (d : As) (n : ℕ) (g : Rows) → known d n ≡ Some g → n ≤ (s.current d).number

or_none : (o : Option Rows) → or_else o None ≡ o
or_none None = refl
or_none (Some g) = refl

same_true : (d : As) → same_as d d ≡ true
same_true d = grind arith

equal_true : (n : ℕ) → (n == n) ≡ true
equal_true n = grind arith

module _ (c : Codec) (n : NetworkParts) (known : Known) (s t : Plant) (deeds : List PlantDeed) (stands : Stands known s) where
  abbrev Does : Event → Answered → Type 0
  Does e answer = Steps c n s e (record { answer = answer; state = t; deeds = deeds })

  -- an event that loads nothing
  quiet : (e : Event) (answer : Answered) → Does e answer → ((d : As) (k : ℕ) → loaded_by e answer d k ≡ None) → (Moves e answer s t → t.current ≡ s.current) →
      KnowsLoad (with_event known (e, answer)) e answer → Stands (with_event known (e, answer)) t
  quiet e answer does none same load = record {
    knows = steps_know_pins (with_event known (e, answer)) c n s e _ does load (knows_more known (with_event known (e, answer)) s (event_grows known (e, answer)) stands.knows);
    below = λ d k g is.
        let was : known d k ≡ Some g = sym (or_none (known d k)) ∙ ap (λ (o : Option Rows). or_else (known d k) o) (sym (none d k)) ∙ is in
        subst (λ (f : As → Pin). k ≤ (f d).number) (sym (same (steps_move c n s e _ does))) (stands.below d k g was);
  }

  -- a load
  module _ (d : As) (g : Rows) (k : ℕ) (does : Does (event.Load d g) (Ok (Loaded k))) where
    abbrev new : Known
    new = with_event known (event.Load d g, Ok (Loaded k))

    abbrev pin : Pin
    pin = record { number = k; topology = g }

    load_moves : (k ≡ suc (s.current d).number) × (t.current ≡ set_as d pin s.current)
    load_moves = steps_move c n s (event.Load d g) _ does

    -- its number was not known before
    load_known : (o : Option Rows) → known d k ≡ o → new d k ≡ Some g
    load_known None unknown =
        ap (λ (x : Option Rows). or_else x (loaded_by (event.Load d g) (Ok (Loaded k)) d k)) unknown
        ∙ ap (λ (b : Bool). cond (b && (k == k)) (Some g) None) (same_true d)
        ∙ ap (λ (b : Bool). cond b (Some g) None) (equal_true k)
    load_known (Some old) unknown = let low = stands.below d k old unknown in let next_one = load_moves.0 in absurd (let no : ⊥ = omega arith in no)

    -- numbers rise
    not_lower : (e : As) (b : Bool) → same_as d e ≡ b → (s.current e).number ≤ (cond b pin (s.current e)).number
    not_lower e true same = let at = ap (λ (x : As). (s.current x).number) (same_as_is d e same) in let next_one = load_moves.0 in omega arith
    not_lower e false same = omega arith

    is_below : (e : As) (m : ℕ) (b a : Bool) (x : Rows) → same_as d e ≡ b → (k == m) ≡ a → cond (b && a) (Some g) None ≡ Some x → m ≤ (cond b pin (s.current e)).number
    is_below e m true true x same equal found = grind arith
    is_below e m true false x same equal found = absurd (let no : ⊥ = cc in no)
    is_below e m false a x same equal found = absurd (let no : ⊥ = cc in no)

    new_below : (e : As) (m : ℕ) (x : Rows) (o : Option Rows) → known e m ≡ o → or_else o (cond (same_as d e && (k == m)) (Some g) None) ≡ Some x → m ≤ (cond (same_as d e) pin (s.current e)).number
    new_below e m x None unknown found = is_below e m (same_as d e) (k == m) x refl refl found
    new_below e m x (Some old) was found = let low = stands.below e m old was in let rises = not_lower e (same_as d e) refl in omega arith

    loads : Stands new t
    loads = record {
      knows = steps_know_pins new c n s (event.Load d g) _ does (load_known (known d k) refl) (knows_more known new s (event_grows known (event.Load d g, Ok (Loaded k))) stands.knows);
      below = λ e m x found. subst (λ (f : As → Pin). m ≤ (f e).number) (sym load_moves.1) (new_below e m x (known e m) refl found);
    }

  step_stands : (e : Event) (answer : Answered) → Does e answer → Stands (with_event known (e, answer)) t
  step_stands (event.Load d g) (Ok (Loaded k)) does = loads d g k does
  step_stands (event.Load d g) (Ok Done) does = quiet (event.Load d g) (Ok Done) does (λ e k. refl) (λ m. m) tt
  step_stands (event.Load d g) (Ok (Drained bytes ended)) does = quiet (event.Load d g) (Ok (Drained bytes ended)) does (λ e k. refl) (λ m. m) tt
  step_stands (event.Load d g) (Err why) does = quiet (event.Load d g) (Err why) does (λ e k. refl) (λ m. m) tt
  step_stands e answer does = quiet e answer does (λ d k. refl) (λ m. m) tt

-- ---- whole histories

history_stands : (c : Codec) (n : NetworkParts) (known : Known) (s : Plant) (es : List Told) (t : Plant) → Leads c n s es t → Stands known s → Stands (known_after known es) t
history_stands c n known s [] t same stands = subst (λ (v : Plant). Stands known v) (sym same) stands
history_stands c n known s (e ∷ es) t leads stands = history_stands c n (with_event known e) leads.0 es t leads.3 (step_stands c n known s leads.0 leads.1 stands e.0 e.1 leads.2)

begins : (s : Plant) → PinsAreNow s → Stands (known_now s) s
begins s now = record {
  knows = record {
    current = λ d. here d;
    pending = λ d h is. subst (λ (p : Pin). IsKnown (known_now s) d p) (sym (now d h is)) (here d);
  };
  below = λ d n g is. low d n g ((s.current d).number == n) refl is;
}
  where
    here : (d : As) → IsKnown (known_now s) d (s.current d)
    here d = ap (λ (b : Bool). cond b (Some (s.current d).topology) None) (equal_true (s.current d).number)

    low : (d : As) (n : ℕ) (g : Rows) (b : Bool) → ((s.current d).number == n) ≡ b → cond b (Some (s.current d).topology) None ≡ Some g → n ≤ (s.current d).number
    low d n g true equal is = grind arith
    low d n g false equal is = absurd (let no : ⊥ = cc in no)

pub histories_know_pins : HistoriesKnowPins
histories_know_pins c n s es t now leads = (history_stands c n (known_now s) s es t leads (begins s now)).knows

-- one history behind the other
leads_on : (c : Codec) (n : NetworkParts) (s : Plant) (xs ys : List Told) (t u : Plant) → Leads c n s xs t → Leads c n t ys u → Leads c n s (xs ++ ys) u
leads_on c n s [] ys t u first second = subst (λ (v : Plant). Leads c n v ys u) first second
leads_on c n s (x ∷ xs) ys t u first second = (first.0, first.1, first.2, leads_on c n first.0 xs ys t u first.3 second)

pin_known : (known : Known) (s : Plant) (d : As) (p : Pin) → KnowsPins known s → HasPin s d p → IsKnown known d p
pin_known known s d p knows (inl now) = subst (λ (x : Pin). IsKnown known d x) (sym now) (knows.current d)
pin_known known s d p knows (inr row) = subst (λ (x : Pin). IsKnown known d x) (sym row.2) (knows.pending d row.0 row.1)

pub pins_are_one : PinsAreOne
pins_are_one c n s t u es more now first second d p q here later number =
    let one = pin_known (known_in s es) t d p (histories_know_pins c n s es t now first) here in
    let kept = known_stays s es more d p.number p.topology one in
    let other = pin_known (known_in s (es ++ more)) u d q (histories_know_pins c n s (es ++ more) u now (leads_on c n s es more t u first second)) later in
    let both : Some p.topology ≡ Some q.topology = sym kept ∙ ap (λ (k : ℕ). known_in s (es ++ more) d k) number ∙ other in
    cc
