-- A step keeps the pins of the state before, and has the one that it loads.
use Rattle.std.proofs.Common.{◌≡◌, ℕ, suc, Bool, true, false, cond, List, [], ◌∷◌, sym, subst, refl, inl, inr, Some, None, nat_eq, Err}
use Rattle.std.specs.Prelude.{Contains}
use Rattle.std.specs.Map.{lookup}
use Rattle.plant_laws.specs.plant_model.Types.{Held, As, NetworkParts}
use Rattle.te_links.specs.Rows.{Rows}
use Rattle.disclosure.specs.Shown.{open_of}
use Rattle.border_costs.proofs.Members.{contains_head, contains_tail}
use Rattle.plant_text.specs.Names.{same_as}
use Rattle.plant_text.specs.Settings.{class_of, is_element}
use Rattle.plant_laws.specs.plant_model.declared.event.Event.{Event}
use Rattle.plant_laws.specs.plant_model.declared.event.Event.TheVariants as event
use Rattle.plant_laws.specs.plant_model.declared.outcome.Refused.{Refused}
use Rattle.plant_laws.specs.plant_model.Element.{Element, Item, Row}
use Rattle.plant_laws.specs.plant_model.Events as events
use Rattle.plant_laws.specs.plant_model.Plant.{Pin, Segment, Plant, Happened, Steps, Happens, load, load_new, is_full, refused}
use Rattle.plant_laws.specs.plant_model.Settings.{place}
use Rattle.plant_laws.specs.plant_model.Taking.{take}
use Rattle.plant_laws.specs.plant_model.Wire.{Codec}
use Rattle.plant_laws.proofs.Runs.Acts.{Goes}
use Rattle.plant_laws.proofs.Runs.Decompose.{open_did, shut_did, feed_did, take_did, carry_did, break_did, tick_did, drain_did}
use Rattle.plant_laws.proofs.Least.PinsKept.{Rows as RowsHold, Holds, take_keeps, downed_keeps, commit_keeps}
use Rattle.plant_laws.proofs.Runs.ElementsKept as elements
use Rattle.plant_laws.proofs.Runs.ElementsKept.{KeptAlways}
use Rattle.plant_laws.proofs.Runs.Queues.{same_as_is}
use Rattle.plant_laws.proofs.Runs.Rows.{in_of}
use Rattle.plant_laws.proofs.Runs.TablesKept.{found_under, in_rows}
use Rattle.run_laws.specs.PinSteps.{Known, IsKnown, KnowsPins, KnowsLoad, Moves, StepsKnowPins, StepsMove}

-- a step that is refused moves nothing
refused_moves : (e : Event) (why : Refused) (s : Plant) → Moves e (Err why) s s
refused_moves (event.Load d g) why s = refl
refused_moves e why s = refl

module _ (known : Known) where
  abbrev IsPinned : As → Pin → Type 0
  IsPinned d pin = IsKnown known d pin

  abbrev Pinned : As → Element Pin Segment → Type 0
  Pinned d k = Holds (IsPinned d) k

  module _ (c : Codec) (n : NetworkParts) where
    -- the current pins, and those of pending requests
    abbrev Good : Plant → Type 0
    Good s = elements.Good c n IsPinned Pinned s

    kept : KeptAlways c n IsPinned Pinned
    kept = record {
      takes = λ d pin p now m k other is old. take_keeps (IsPinned d) pin is c open_of (place n d) p (class_of n p) now m k old;
      ups = λ d p k other old. old;
      downs = λ d p k other old. downed_keeps (IsPinned d) p k old;
      ticks = λ d now k old. old;
      commits = λ d h down now source_known target_known best k other old. commit_keeps (IsPinned d) c (place n d) h down now (λ b. b.segment) source_known target_known best k old;
    }

    abbrev Kept : Plant → Plant → Type 0
    Kept s t = elements.Keeps c n IsPinned Pinned s t

    -- a step
    record Stepped (s : Plant) (e : Event) (h : Happened) : Type 0 where
      pub moves : Moves e h.answer s h.state
      pub good : KnowsLoad known e h.answer → Good s → Good h.state

    stepped_pick : (s : Plant) (e : Event) (b : Bool) (h k : Happened) → Stepped s e h → Stepped s e k → Stepped s e (cond b h k)
    stepped_pick s e true h k x y = x
    stepped_pick s e false h k x y = y

    nothing : (s : Plant) (e : Event) (why : Refused) → Stepped s e (refused c n why s)
    nothing s e why = record { moves = refused_moves e why s; good = λ load good. good }

    load_good : (s : Plant) (d : As) (g : Rows) → known d (suc (s.current d).number) ≡ Some g → Good s → Good (load_new c n d g s).state
    load_good s d g is good = record { current = λ e. go e (same_as d e) refl; elements = good.elements }
      where
        go : (e : As) (b : Bool) → same_as d e ≡ b → IsPinned e (cond b (record { number = suc (s.current d).number; topology = g }) (s.current e))
        go e true same = subst (λ (x : As). known x (suc (s.current d).number) ≡ Some g) (same_as_is d e same) is
        go e false same = good.current e

    load_stepped : (s : Plant) (d : As) (g : Rows) → Stepped s (event.Load d g) (load c n d g s)
    load_stepped s d g =
        stepped_pick s (event.Load d g) (is_element n d) _ _
        (stepped_pick s (event.Load d g) (is_full (s.current d).number (s.elements d).pending.rows) _ _ (nothing s (event.Load d g) _)
        (record { moves = (refl, refl); good = λ is good. load_good s d g is good })) (nothing s (event.Load d g) _)

    -- an event that is determined, and is no load
    went : (s : Plant) (h k : Happened) → k ≡ h → Goes Pin Segment c n open_of s h.deeds h.state → Kept s k.state
    went s h k is r = subst (λ (x : Happened). Kept s x.state) (sym is) (elements.goes_keep c n IsPinned Pinned kept s h.state h.deeds r)

    happens_stepped : (s : Plant) (e : Event) (h : Happened) → Happens c n s e h → Stepped s e h
    happens_stepped s (event.Load d g) h is = subst (Stepped s (event.Load d g)) (sym is) (load_stepped s d g)
    happens_stepped s (event.Open i holder) h is = let k = went s (events.open_peer Pin Segment c n open_of i holder s) h is (open_did Pin Segment c n open_of i holder s) in record { moves = k.current; good = λ load. k.good }
    happens_stepped s (event.Shut i) h is = let k = went s (events.shut Pin Segment c n open_of i s) h is (shut_did Pin Segment c n open_of i s) in record { moves = k.current; good = λ load. k.good }
    happens_stepped s (event.Feed i bytes) h is = let k = went s (events.feed Pin Segment c n open_of i bytes s) h is (feed_did Pin Segment c n open_of i bytes s) in record { moves = k.current; good = λ load. k.good }
    happens_stepped s (event.Take i) h is = let k = went s (events.take Pin Segment c n open_of i s) h is (take_did Pin Segment c n open_of i s) in record { moves = k.current; good = λ load. k.good }
    happens_stepped s (event.Carry a b) h is = let k = went s (events.carry Pin Segment c n open_of a b s) h is (carry_did Pin Segment c n open_of a b s) in record { moves = k.current; good = λ load. k.good }
    happens_stepped s (event.Break a b) h is = let k = went s (events.break Pin Segment c n open_of a b s) h is (break_did Pin Segment c n open_of a b s) in record { moves = k.current; good = λ load. k.good }
    happens_stepped s (event.Tick t) h is = let k = went s (events.tick Pin Segment c n open_of t.0 s) h is (tick_did Pin Segment c n open_of t.0 s) in record { moves = k.current; good = λ load. k.good }
    happens_stepped s (event.Drain i holder) h is = let k = went s (events.drain Pin Segment c n open_of i holder s) h is (drain_did Pin Segment c n open_of i holder s) in record { moves = k.current; good = λ load. k.good }
    happens_stepped s (event.Solve d k) h (inl none) = subst (Stepped s (event.Solve d k)) (sym none.1) (nothing s (event.Solve d k) _)
    happens_stepped s (event.Solve d k) h (inr (inl none)) = subst (Stepped s (event.Solve d k)) (sym none.2) (nothing s (event.Solve d k) _)
    happens_stepped s (event.Solve d k) h (inr (inr (inl solves))) = let x = elements.solve_keeps c n IsPinned Pinned kept s d k h solves.1 in record { moves = x.current; good = λ load. x.good }
    happens_stepped s (event.Solve d k) h (inr (inr (inr solves))) = let x = elements.upper_keeps c n IsPinned Pinned kept s k h solves.2 in record { moves = x.current; good = λ load. x.good }

    step_goes : (s : Plant) (e : Event) (h : Happened) → Steps c n s e h → Stepped s e h
    step_goes s e h (inl is) = happens_stepped s e h is
    step_goes s e h (inr none) = subst (Stepped s e) (sym none.1) (nothing s e _)

  -- ---- rows one by one

  rows_of : (d : As) (hs : List (Row Pin)) → ((h : Row Pin) → Contains hs h → IsPinned d h.1.item.pin) → RowsHold (IsPinned d) hs
  rows_of d [] all = tt
  rows_of d (h ∷ hs) all = (all h (contains_head h hs), rows_of d hs (λ x is. all x (contains_tail h hs x is)))

  abbrev IsPinnedRow : As → Held (Item Pin) → Type 0
  IsPinnedRow d h = IsPinned d h.item.pin

  -- the pin of a request that is found by its number
  pub found_pin : (s : Plant) (d : As) (k : ℕ) (h : Held (Item Pin)) → KnowsPins known s → lookup (nat_eq k) (s.elements d).pending.rows ≡ Some h → IsPinned d h.item.pin
  found_pin s d k h knows is = found_under (IsPinnedRow d) k (s.elements d).pending.rows h (rows_of d (s.elements d).pending.rows (knows.pending d)) is

  good_of : (c : Codec) (n : NetworkParts) (s : Plant) → KnowsPins known s → Good c n s
  good_of c n s k = record { current = k.current; elements = λ d. rows_of d (s.elements d).pending.rows (k.pending d) }

  known_of : (c : Codec) (n : NetworkParts) (s : Plant) → Good c n s → KnowsPins known s
  known_of c n s good = record { current = good.current; pending = λ d h is. in_rows (IsPinnedRow d) h (s.elements d).pending.rows (good.elements d) (in_of h (s.elements d).pending.rows is) }

pub steps_know_pins : StepsKnowPins
steps_know_pins known c n s e h steps load knows = known_of known c n h.state ((step_goes known c n s e h steps).good load (good_of known c n s knows))

pub steps_move : StepsMove
steps_move c n s e h steps = (step_goes (λ d k. None) c n s e h steps).moves
