-- Each run has a disclosed trace.
use Rattle.std.proofs.Common.{◌≡◌, ℕ, nat_eq, Bool, true, false, cond, List, [], ◌∷◌, Some, refl, sym, ap, subst, ◌∙◌, inl, inr}
use Rattle.std.specs.Map.{lookup}
use Rattle.plant_play.specs.plant_model.Types.{As, BorderRow, Held, Branch, NetworkParts}
use Rattle.border_costs.specs.Tables.{IsBorderTable}
use Rattle.plant_text.specs.Names.{same_as, parent_as}
use Rattle.plant_play.specs.plant_model.declared.event.BlindEvent.{BlindEvent}
use Rattle.plant_play.specs.plant_model.declared.event.Event.{Event}
use Rattle.plant_play.specs.plant_model.declared.event.Event.TheVariants as event
use Rattle.plant_play.specs.plant_model.Blind.{Discloses, blind_of, is_accepted, with_event}
use Rattle.plant_play.specs.plant_model.Element.{Item, Ready, is_client}
use Rattle.plant_play.specs.plant_model.Plant.{Entry, Happened, Pin, Plant, Run, SolveHappens, Steps, ask}
use Rattle.plant_play.specs.plant_model.RealWire.{wire}
use Rattle.run_laws.specs.plant_laws.Worlds.{DisclosedRun}
use Rattle.run_laws.proofs.plant_laws.Least.EntriesRise.{entries_rise}
use Rattle.run_laws.proofs.plant_laws.Runs.Sound.{Sound, run_sound}
use Rattle.client_laws.proofs.TableExists.{table_exists}

module _ (n : NetworkParts) (s : Plant) (sound : Sound n s) where
  -- the rows of the request that is pending are those of any
  of_pending : (d : As) (k : ℕ) (x : Held (Item Pin)) (downs : List Branch) (rows : List BorderRow) → lookup (nat_eq k) (s.elements d).pending.rows ≡ Some x → x.item.stage ≡ Ready downs →
      cond (is_client x.item.class) (rows ≡ []) (IsBorderTable x.item.pin.topology (ask wire n d (k, x) downs) rows) →
      (h : Held (Item Pin)) (down : List Branch) → lookup (nat_eq k) (s.elements d).pending.rows ≡ Some h → h.item.stage ≡ Ready down →
      cond (is_client h.item.class) (rows ≡ []) (IsBorderTable h.item.pin.topology (ask wire n d (k, h) down) rows)
  of_pending d k x downs rows there ready disclosed h down found ready' =
      let same : x ≡ h = let one : Some x ≡ Some h = sym there ∙ found in cc in
      let stages : Ready downs ≡ Ready down = sym ready ∙ ap (λ (y : Held (Item Pin)). y.item.stage) same ∙ ready' in
      let branches : downs ≡ down = cc in
      subst (λ (bs : List Branch). cond (is_client h.item.class) (rows ≡ []) (IsBorderTable h.item.pin.topology (ask wire n d (k, h) bs) rows)) branches
      (subst (λ (y : Held (Item Pin)). cond (is_client y.item.class) (rows ≡ []) (IsBorderTable y.item.pin.topology (ask wire n d (k, y) downs) rows)) same disclosed)

  -- a request of a client discloses nothing, and one of another peer its table
  rows_exist : (d : As) (k : ℕ) (x : Held (Item Pin)) (downs : List Branch) → lookup (nat_eq k) (s.elements d).pending.rows ≡ Some x → (client : Bool) →
      ((rows : List BorderRow) → cond client (rows ≡ []) (IsBorderTable x.item.pin.topology (ask wire n d (k, x) downs) rows) → ⊥) → ⊥
  rows_exist d k x downs there true none = none [] refl
  rows_exist d k x downs there false none =
      let order = (sound d k x there).1 in
      table_exists x.item.pin.topology (ask wire n d (k, x) downs) order (entries_rise x.item.class x.item.wanted.source x.item.pin.topology order) none

  solve_discloses : (d : As) (k : ℕ) (h : Happened) (upper : Bool) → same_as d parent_as ≡ upper → SolveHappens wire n d k s h → is_accepted h.answer ≡ true →
      ((rows : List BorderRow) → Discloses wire n s (event.Solve d k) rows → ⊥) → ⊥
  solve_discloses d k h true is happens ok none = none [] (inl (is, refl))
  solve_discloses d k h false is (inl x) ok none = absurd (let no : false ≡ true = sym (ap (λ (y : Happened). is_accepted y.answer) x.1) ∙ ok in cc)
  solve_discloses d k h false is (inr (inl x)) ok none = absurd (let no : false ≡ true = sym (ap (λ (y : Happened). is_accepted y.answer) x.2) ∙ ok in cc)
  solve_discloses d k h false is (inr (inr (inl y))) ok none =
      let x = y.1 in
      rows_exist d k x.held x.down x.is_held (is_client x.held.item.class)
      (λ rows disclosed. none rows (inr (is, of_pending d k x.held x.down rows x.is_held x.ready disclosed)))
  solve_discloses d k h false is (inr (inr (inr x))) ok none = absurd (let no : same_as parent_as parent_as ≡ false = subst (λ (a : As). same_as a parent_as ≡ false) x.1 is in let yes : true ≡ false = no in cc)

  step_discloses : (e : Event) (h : Happened) → Steps wire n s e h → is_accepted h.answer ≡ true → ((rows : List BorderRow) → Discloses wire n s e rows → ⊥) → ⊥
  step_discloses (event.Load d g) h steps ok none = none [] refl
  step_discloses (event.Open i holder) h steps ok none = none [] refl
  step_discloses (event.Shut i) h steps ok none = none [] refl
  step_discloses (event.Feed i bytes) h steps ok none = none [] refl
  step_discloses (event.Take i) h steps ok none = none [] refl
  step_discloses (event.Carry a b) h steps ok none = none [] refl
  step_discloses (event.Break a b) h steps ok none = none [] refl
  step_discloses (event.Tick now) h steps ok none = none [] refl
  step_discloses (event.Drain i holder) h steps ok none = none [] refl
  step_discloses (event.Solve d k) h (inl happens) ok none = solve_discloses d k h (same_as d parent_as) refl happens ok none
  step_discloses (event.Solve d k) h (inr x) ok none = absurd (let no : false ≡ true = sym (ap (λ (y : Happened). is_accepted y.answer) x.1) ∙ ok in cc)

  goes_on : (e : Entry) (h : Happened) (earlier : List BlindEvent) (accepted : Bool) → is_accepted h.answer ≡ accepted → Steps wire n s e.event h →
      ((trace : List BlindEvent) → cond accepted ((rows : List BorderRow) × Discloses wire n s e.event rows × (trace ≡ with_event (blind_of e.event rows) earlier)) (trace ≡ earlier) → ⊥) → ⊥
  goes_on e h earlier false ok steps none = none earlier refl
  goes_on e h earlier true ok steps none =
      step_discloses e.event h steps ok (λ rows disclosed. none (with_event (blind_of e.event rows) earlier) (rows, disclosed, refl))

-- it can't be that none is its disclosed trace
pub runs_disclose : (n : NetworkParts) (es : List Entry) (s : Plant) → Run wire n es s → ((trace : List BlindEvent) → DisclosedRun wire n es trace s → ⊥) → ⊥
runs_disclose n [] s run none = none [] (refl, run)
runs_disclose n (e ∷ older) s run none =
    runs_disclose n older run.0 run.1 (λ earlier disclosed.
    goes_on n run.0 (run_sound wire n older run.0 run.1) e (record { answer = e.answer; state = s; deeds = e.deeds }) earlier (is_accepted e.answer) refl run.3
    (λ trace traces. none trace (run.0, earlier, disclosed, run.2, run.3, traces)))
