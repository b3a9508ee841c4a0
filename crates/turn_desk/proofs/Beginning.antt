-- A lock may be opened round a network that has just been made, and round what loads have made of it: no request is pending.
use Rattle.std.proofs.Common.{◌≡◌, ◌<◌, ◌∙◌, Bool, true, false, cond, List, [], ◌∷◌, length, ap, arith, refl, subst, inl, inr, Some}
use Rattle.std.specs.Prelude.{Contains}
use Rattle.plant_network.specs.plant_model.Types.{As, NetworkParts}
use Rattle.te_links.specs.Rows.{Rows}
use Rattle.disclosure.specs.Shown.{open_of}
use Rattle.plant_text.specs.Settings.{Adjacency, is_element, adjacencies}
use Rattle.plant_network.specs.plant_model.declared.event.Event.TheVariants.{Load}
use Rattle.plant_network.specs.plant_model.declared.outcome.Refused.TheVariants.{GenerationsFull, NoSuchPeer}
use Rattle.plant_network.specs.plant_model.Deeds as deeds
use Rattle.plant_network.specs.plant_model.Deeds.{Going}
use Rattle.plant_network.specs.plant_model.Element.{Element}
use Rattle.plant_network.specs.plant_model.Events as events
use Rattle.plant_network.specs.plant_model.Events.{Answered}
use Rattle.plant_network.specs.plant_model.Plant.{Happened, Pin, Plant, Segment, Steps, first_pin, is_full, load, load_new, refused}
use Rattle.plant_network.specs.plant_model.RealWire.{wire}
use Rattle.plant_network.specs.Topologies.{Held, whole}
use Rattle.plant_network.specs.Whole.{IsBegun, Stepped, Whole}
use Rattle.run_laws.specs.PinHistories.{PinsAreNow}
use Rattle.turn_desk.specs.Histories.{Begins, NoneIsPending}

abbrev Elements : Type 0
Elements = As → Element Pin Segment

-- to begin the links changes no element
begun_elements : (n : NetworkParts) (xs : List Adjacency) (g : Going Pin Segment) → (events.begin_adjacencies Pin Segment wire n open_of xs g).state.elements ≡ g.state.elements
begun_elements n [] g = refl
begun_elements n (x ∷ xs) g = begun_elements n xs (deeds.begin_adjacency Pin Segment wire n open_of 0 x g)

-- a network that has just been made
pub begun_has_none : (n : NetworkParts) (w : Whole) → IsBegun n w → NoneIsPending w.state
begun_has_none n w is d =
    ap (λ (s : Plant). length (s.elements d).pending.rows) is.1
    ∙ ap (λ (f : Elements). length (f d).pending.rows) (begun_elements n (adjacencies n) (record { state = events.bare Pin Segment wire n open_of first_pin; deeds = [] }))

module _ (n : NetworkParts) (d : As) (g : Rows) (s : Plant) where
  abbrev Same : Happened → Type 0
  Same h = h.state.elements ≡ s.elements

  same_pick : (b : Bool) (h k : Happened) → Same h → Same k → Same (cond b h k)
  same_pick true h k x y = x
  same_pick false h k x y = y

  load_same : Same (load wire n d g s)
  load_same =
      same_pick (is_element n d) (cond (is_full (s.current d).number (s.elements d).pending.rows) (refused wire n GenerationsFull s) (load_new wire n d g s)) (refused wire n NoSuchPeer s)
      (same_pick (is_full (s.current d).number (s.elements d).pending.rows) (refused wire n GenerationsFull s) (load_new wire n d g s) refl refl) refl

  step_same : (h : Happened) → Steps wire n s (Load d g) h → Same h
  step_same h (inl is) = ap (λ (x : Happened). x.state.elements) is ∙ load_same
  step_same h (inr none) = ap (λ (x : Happened). x.state.elements) none.1

-- a load, accepted or not
pub loads_keep_none : (old : Whole) (d : As) (g : Rows) (answer : Answered) (new : Whole) → Stepped old (Load d g) answer new → NoneIsPending old.state → NoneIsPending new.state
loads_keep_none old d g answer new is none e =
    ap (λ (f : Elements). length (f e).pending.rows) (step_same old.network d g old.state (record { answer = answer; state = new.state; deeds = is.deeds }) is.steps) ∙ none e

-- then a lock may be opened round it
pub none_begins : (h : Held) → NoneIsPending (whole h).state → Begins (Some h)
none_begins h none x is = let same : h ≡ x = cc in subst (λ (y : Held). NoneIsPending (whole y).state) same none

none_in : {X : Type 0} (xs : List X) (x : X) → length xs ≡ 0 → Contains xs x → ⊥
none_in xs x none is = let below : is.0 < length xs = is.1 in omega arith

-- and no pin is another than the current one
pub none_is_now : (s : Plant) → NoneIsPending s → PinsAreNow s
none_is_now s none d row is = absurd (none_in (s.elements d).pending.rows row (none d) is)
