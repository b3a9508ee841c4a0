-- In a quiet state the chain of each pending request ends at an outside peer, if what waits is under way.
use Rattle.std.proofs.Common.{◌≡◌, ◌≢◌, ◌≤◌, nat_eq, ℕ, zero, suc, Bool, true, false, cond, List, [], ◌∷◌, length, sym, ◌∙◌, ap, subst, inl, inr, refl, arith}
use Rattle.std.specs.Prelude.{Contains}
use Rattle.std.specs.Map.{lookup}
use Rattle.std.proofs.lemmas.Bool.{cases_Bool}
use Rattle.plant_model.specs.Types.{As, Peer, Outside, Inner, NetworkParts}
use Rattle.request_table.specs.Pending.{key_of}
use Rattle.plant_text.specs.Names.{same_as, parent_as}
use Rattle.plant_model.specs.Wire.{Bytes, Codec}
use Rattle.plant_model.specs.Element.{Stage, Waits, Ready, Element, Row}
use Rattle.plant_model.specs.Element as element
use Rattle.plant_model.specs.Parent as parent
use Rattle.plant_model.specs.Parent.{Wait, AskingRow}
use Rattle.plant_model.specs.Routes.{toward}
use Rattle.plant_model.specs.Settings.{place}
use Rattle.plant_model.specs.Events.{is_ready_row, is_ready_asking}
use Rattle.plant_model.specs.Plant.{Pin, Segment, Plant, Entry, Run}
use Rattle.plant_laws.specs.Transcript.{Transcript}
use Rattle.plant_laws.specs.Chains.{IsQuiet, IsPassedOn, WaitsOutside, asks_outside, through}
use Rattle.plant_laws.specs.UnderWay.{IsUnderWay, coming, taken, taken_up, answered, GoesOn, along, outside, upward, AreUnderWay}
use Rattle.border_costs.proofs.Members.{contains_none, contains_head}
use Rattle.plant_laws.proofs.Runs.Rows.{in_of, found_in}
use Rattle.plant_laws.proofs.Runs.ElementsKept.{KeptAlways, run_good}
use Rattle.plant_laws.proofs.Runs.Queues.{same_as_is}
use Rattle.plant_laws.proofs.Once.Answering.{InOrder}

-- ---- the parent is no element

module _ (c : Codec) (n : NetworkParts) where
  abbrev Any : As → Pin → Type 0
  Any d pin = Unit {0}

  abbrev NoneAbove : As → Element Pin Segment → Type 0
  NoneAbove d k = same_as d parent_as ≡ true → k.pending.rows ≡ []

  both : (b : Bool) → b ≡ false → b ≡ true → ⊥
  both b is other = cc

  kept : KeptAlways c n Any NoneAbove
  kept = record {
    takes = λ d pin p now m k other any none same. absurd (both (same_as d parent_as) other same);
    ups = λ d p k other none same. absurd (both (same_as d parent_as) other same);
    downs = λ d p k other none same. absurd (both (same_as d parent_as) other same);
    ticks = λ d now k none. none;
    commits = λ d h down now source_known target_known best k other none same. absurd (both (same_as d parent_as) other same);
  }

  pub run_none : (es : List Entry) (s : Plant) → Run c n es s → (s.elements parent_as).pending.rows ≡ []
  run_none es s run = (run_good c n Any NoneAbove kept (record { current = λ d. tt; elements = λ d same. refl }) (λ s' d g given old e. tt) es s run).elements parent_as refl

-- ---- a quiet state

module _ (c : Codec) (n : NetworkParts) (s : Plant) (now : Transcript) (quiet : IsQuiet s) (order : InOrder s) (above' : (s.elements parent_as).pending.rows ≡ []) (way : AreUnderWay c n s)
    (passed : (d b : As) (h g : Row Pin) (y : ℕ) → d ≢ parent_as → Contains (s.elements d).pending.rows h → h.1.item.stage ≡ Waits (Inner b) y → Contains (s.elements b).pending.rows g → g.1.key ≡ key_of (Inner d) y → IsPassedOn c s now d h b y g) where
  -- the queue is empty
  nothing : (a b : As) (bytes : Bytes) → Contains (s.queues a b) bytes → ⊥
  nothing a b bytes h = contains_none bytes (subst (λ (l : List Bytes). Contains l bytes) (quiet.queues a b) h)

  not_parent : (d : As) (h : Row Pin) → Contains (s.elements d).pending.rows h → same_as d parent_as ≡ false
  not_parent d h there = elim (cases_Bool (same_as d parent_as)) [
    | inl is ↦ absurd (contains_none h (subst (λ (l : List (Row Pin)). Contains l h) above' (subst (λ (a : As). Contains (s.elements a).pending.rows h) (same_as_is d parent_as is) there)))
    | inr other ↦ other
  ]

  not_ready : (d : As) (h : Row Pin) → Contains (s.elements d).pending.rows h → element.is_ready h.1.item.stage ≡ false
  not_ready d h there =
      let row = found_in 0 (s.elements d).pending.given (s.elements d).pending.rows h (order.elements d).numbers (in_of h (s.elements d).pending.rows there) in
      let at = ap (λ (b : Bool). cond b (is_ready_asking (lookup (nat_eq h.0) s.parent.pending.rows)) (is_ready_row (lookup (nat_eq h.0) (s.elements d).pending.rows))) (not_parent d h there) in
      ap (is_ready_row {P = Pin}) (sym row) ∙ sym at ∙ quiet.jobs d h.0

  asking_not_ready : (h : AskingRow) → Contains s.parent.pending.rows h → parent.is_ready h.1.item ≡ false
  asking_not_ready h there =
      let row = found_in 0 s.parent.pending.given s.parent.pending.rows h order.parent.numbers (in_of h s.parent.pending.rows there) in
      ap is_ready_asking (sym row) ∙ quiet.jobs parent_as h.0

  -- each pending request waits, and went on
  waits_on : (d : As) (h : Row Pin) → Contains (s.elements d).pending.rows h → (on : Peer) × (id : ℕ) × (h.1.item.stage ≡ Waits on id) × GoesOn c n s d h on id
  waits_on d h there = go h.1.item.stage refl (not_ready d h there)
    where
      go : (g : Stage) → h.1.item.stage ≡ g → element.is_ready g ≡ false → (on : Peer) × (id : ℕ) × (h.1.item.stage ≡ Waits on id) × GoesOn c n s d h on id
      go (Ready branches) is ready = absurd (let out : true ≡ false = ready in cc)
      go (Waits on id) is ready = (on, id, is, way.elements d h on id there is)

  -- what is under way to an element is pending there
  pends : (a b : As) (id : ℕ) (l : List As) → b ≢ parent_as → IsUnderWay c s a b id l → (h : Row Pin) × Contains (s.elements b).pending.rows h × (h.1.key ≡ key_of (Inner a) id) × (h.1.item.sequence ≡ l)
  pends a b id l real (coming w t there) = absurd (nothing a b (c.text _) there)
  pends a b id l real (answered m there answers) = absurd (nothing b a (c.text m) there)
  pends a b id l real (taken_up h is there key) = absurd (real is)
  pends a b id l real (taken h other there key is) = (h, there, key, is)

  no_cons : {X : Type 0} (x : X) (xs : List X) → x ∷ xs ≡ [] → ⊥
  no_cons x xs e = cc

  -- none of one domain alone is: it would go on nowhere
  none_alone : (d : As) (h : Row Pin) (x : As) → Contains (s.elements d).pending.rows h → h.1.item.sequence ≡ x ∷ [] → ⊥
  none_alone d h x there is = (let w = waits_on d h there in go w.0 w.1 w.3)
    where
      no_next : (b : As) (rest : List As) → h.1.item.sequence ≡ d ∷ b ∷ rest → ⊥
      no_next b rest sequence = (let both : x ∷ [] ≡ d ∷ b ∷ rest = sym is ∙ sequence in let tails : [] ≡ b ∷ rest = cc in no_cons b rest (sym tails))

      go : (on : Peer) (id : ℕ) → GoesOn c n s d h on id → ⊥
      go on id (upward to empty under) = no_cons x [] (sym is ∙ empty)
      go on id (outside i b rest to toward' sequence) = no_next b rest sequence
      go on id (along b rest to real sequence under) = no_next b rest sequence

  -- so none is at the parent, which asks each child for its own domain
  none_asking : (h : AskingRow) → Contains s.parent.pending.rows h → ⊥
  none_asking h there = go h.1.item.waits refl
    where
      go : (ws : List Wait) → h.1.item.waits ≡ ws → ⊥
      go [] is =
          let ready : true ≡ false = ap (λ (l : List Wait). elim l as (λ x. Bool) [ [] ↦ true | w ∷ ws ↦ false ]) (sym is) ∙ asking_not_ready h there in cc
      go (w ∷ ws) is =
          let u = way.parent h w there (subst (λ (l : List Wait). Contains l w) (sym is) (contains_head w ws)) in
          let g = pends parent_as w.child w.id (w.child ∷ []) u.0 u.1 in
          none_alone w.child g.0 w.child g.1 g.3

  -- and none waits on it
  none_up : (d : As) (id : ℕ) → IsUnderWay c s d parent_as id [] → ⊥
  none_up d id (coming w t at) = nothing d parent_as (c.text _) at
  none_up d id (answered m at answers) = nothing parent_as d (c.text m) at
  none_up d id (taken h other at key is) = other refl
  none_up d id (taken_up h is at key) = none_asking h at

  real_at : (d : As) (h : Row Pin) → Contains (s.elements d).pending.rows h → d ≢ parent_as
  real_at d h there is = (let clash : true ≡ false = sym (ap (λ (z : As). same_as z parent_as) is) ∙ not_parent d h there in cc)

  -- the chain of one ends outside, if the shorter ones do
  ended : (k : ℕ) → ((b : As) (g : Row Pin) → Contains (s.elements b).pending.rows g → suc (length g.1.item.sequence) ≤ k → WaitsOutside c s now b g) →
      (d : As) (h : Row Pin) → Contains (s.elements d).pending.rows h → length h.1.item.sequence ≤ k → WaitsOutside c s now d h
  ended k shorter d h there short = (let w = waits_on d h there in go w.0 w.1 w.2 w.3)
    where
      go : (on : Peer) (id : ℕ) → h.1.item.stage ≡ Waits on id → GoesOn c n s d h on id → WaitsOutside c s now d h
      go on id waits (upward to empty under) = absurd (none_up d id under)
      go on id waits (outside i b rest to toward' sequence) = asks_outside d h i id (waits ∙ ap (λ (p : Peer). Waits p id) to)
      go on id waits (along b rest to real sequence under) =
          let whole : length h.1.item.sequence ≡ length (d ∷ b ∷ rest) = ap length sequence in
          let g = pends d b id (b ∷ rest) real under in
          let same : length g.0.1.item.sequence ≡ length (b ∷ rest) = ap length g.3 in
          let stage : h.1.item.stage ≡ Waits (Inner b) id = waits ∙ ap (λ (p : Peer). Waits p id) to in
          through d b h g.0 id stage (passed d b h g.0 id (real_at d h there) there stage g.1 g.2) (shorter b g.0 g.1 (omega (arith, whole, short, same)))

  ends : (k : ℕ) (d : As) (h : Row Pin) → Contains (s.elements d).pending.rows h → length h.1.item.sequence ≤ k → WaitsOutside c s now d h
  ends zero = ended zero (λ b g there less. absurd (omega (arith, less)))
  ends (suc k) = ended (suc k) (λ b g there less. ends k b g there (omega (arith, less)))

  no_rows : {X : Type 0} (rows : List X) → ((h : X) → Contains rows h → ⊥) → rows ≡ []
  no_rows [] none = refl
  no_rows (h ∷ rows) none = absurd (none h (contains_head h rows))

  pub quiet_ends : (s.parent.pending.rows ≡ []) × ((d : As) (h : Row Pin) → Contains (s.elements d).pending.rows h → WaitsOutside c s now d h)
  quiet_ends = (no_rows s.parent.pending.rows none_asking, λ d h there. ends (length h.1.item.sequence) d h there (omega arith))

  -- where no request for a domain goes to an outside peer
  module _ (inner : (d b : As) → toward b (place n d).routes ≡ Inner b) where
    none_outside : (d : As) (h : Row Pin) → Contains (s.elements d).pending.rows h → WaitsOutside c s now d h → ⊥
    none_outside d h there (asks_outside d' h' i y stage) = go (way.elements d h (Outside i) y there stage)
      where
        go : GoesOn c n s d h (Outside i) y → ⊥
        go (upward to empty under) = (let clash : Outside i ≡ Inner parent_as = to in cc)
        go (along b rest to real sequence under) = (let clash : Outside i ≡ Inner b = to in cc)
        go (outside j b rest to toward' sequence) = (let clash : Inner b ≡ Outside j = sym (inner d b) ∙ toward' in cc)
    none_outside d h there (through d' b h' g y stage on more) = none_outside b g on.pending more

    pub quiet_none : (s.parent.pending.rows ≡ []) × ((d : As) → (s.elements d).pending.rows ≡ [])
    quiet_none = (quiet_ends.0, λ d. no_rows (s.elements d).pending.rows (λ h there. none_outside d h there (quiet_ends.1 d h there)))
