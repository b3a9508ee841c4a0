-- Behind loads of different elements each has the topology that it loaded.
use Rattle.std.proofs.Common.{◌≡◌, ◌≢◌, ◌∙◌, ℕ, suc, Bool, true, false, cond, List, [], ◌∷◌, ◌++◌, map, reverse, refl, sym, ap, subst, inl, inr, arith}
use Rattle.std.specs.List.{AllByRecursion}
use Rattle.std.proofs.lemmas.Bool.{ne_eqb}
use Rattle.std.proofs.lemmas.List.{map-append, reverse-append, reverse-reverse}
use Rattle.te_links.specs.Rows.{Rows}
use Rattle.plant_text.specs.Names.{same_as}
use Rattle.plant_text.specs.Settings.{is_element}
use Rattle.plant_text.specs.declared.settings.NetworkParts.{NetworkParts}
use Rattle.plant_network.specs.plant_model.Types.{As}
use Rattle.plant_network.specs.plant_model.declared.event.Event.{Event}
use Rattle.plant_network.specs.plant_model.declared.event.Event.TheVariants as event
use Rattle.plant_network.specs.plant_model.declared.outcome.Refused.{Refused}
use Rattle.plant_network.specs.plant_model.declared.outcome.Refused.TheVariants as refused
use Rattle.plant_network.specs.plant_model.Blind.{is_accepted}
use Rattle.plant_network.specs.plant_model.Events.{Answered}
use Rattle.plant_network.specs.plant_model.Plant.{Entry, Happened, Pin, Plant, Run, Steps, is_full, load_new, refused as no_load}
use Rattle.plant_network.specs.plant_model.RealWire.{wire}
use Rattle.plant_network.specs.Histories.{done_by}
use Rattle.told_laws.specs.Telling.{is_told, told}
use Rattle.record_laws.specs.Days.{events_by}
use Rattle.network_serving.specs.Loaded.{Load, load_event, load_events}

-- ---- one load

same_self : (a : As) → same_as a a ≡ true
same_self a = grind arith

other_as : (a b : As) → a ≢ b → same_as a b ≡ false
other_as a b differ = ne_eqb a.0 b.0 (λ same. differ (ap (λ (k : ℕ). let d : As = record { 0 = k } in d) same))

-- what an accepted load leaves: its own topology, and those of others
pub record Leaves (d : As) (g : Rows) (before after : Plant) : Type 0 where
  pub own : (after.current d).topology ≡ g
  pub others : (e : As) → d ≢ e → after.current e ≡ before.current e

module _ (n : NetworkParts) (d : As) (g : Rows) (s : Plant) where
  abbrev IfAccepted : Happened → Type 0
  IfAccepted h = is_accepted h.answer ≡ true → Leaves d g s h.state

  refuses : (why : Refused) → IfAccepted (no_load wire n why s)
  refuses why fine = let no : false ≡ true = fine in cc

  loads : IfAccepted (load_new wire n d g s)
  loads fine =
      let pin : Pin = record { number = suc (s.current d).number; topology = g } in
      record {
        own = ap (λ (b : Bool). (cond b pin (s.current d)).topology) (same_self d);
        others = λ e differ. ap (λ (b : Bool). cond b pin (s.current e)) (other_as d e differ);
      }

  either : (a b : Bool) → IfAccepted (cond a (cond b (no_load wire n refused.GenerationsFull s) (load_new wire n d g s)) (no_load wire n refused.NoSuchPeer s))
  either true true = refuses refused.GenerationsFull
  either true false = loads
  either false b = refuses refused.NoSuchPeer

  step_leaves : (h : Happened) → Steps wire n s (event.Load d g) h → IfAccepted h
  step_leaves h (inl is) = subst IfAccepted (sym is) (either (is_element n d) (is_full (s.current d).number (s.elements d).pending.rows))
  step_leaves h (inr none) = subst IfAccepted (sym none.1) (refuses refused.NoMemory)

-- ---- many loads, the newest first

abbrev pub DifferFrom : As → List Load → Type 0
DifferFrom d ls = AllByRecursion (λ (l : Load). d ≢ l.at) ls

abbrev pub AllDiffer : List Load → Type 0
AllDiffer [] = Unit {0}
AllDiffer (l ∷ ls) = DifferFrom l.at ls × AllDiffer ls

abbrev pub AreCurrent : Plant → List Load → Type 0
AreCurrent s ls = AllByRecursion (λ (l : Load). (s.current l.at).topology ≡ l.rows) ls

still_current : (d : As) (g : Rows) (before after : Plant) → Leaves d g before after → (ls : List Load) → DifferFrom d ls → AreCurrent before ls → AreCurrent after ls
still_current d g before after leaves [] differ are = tt
still_current d g before after leaves (l ∷ ls) differ are = (ap (λ (p : Pin). p.topology) (leaves.others l.at differ.0) ∙ are.0, still_current d g before after leaves ls differ.1 are.1)

pairs_head : (p q : Event × Answered) (ps qs : List (Event × Answered)) → (p ∷ ps) ≡ (q ∷ qs) → p ≡ q
pairs_head p q ps qs e = cc

pairs_tail : (p q : Event × Answered) (ps qs : List (Event × Answered)) → (p ∷ ps) ≡ (q ∷ qs) → ps ≡ qs
pairs_tail p q ps qs e = cc

none_cons : {X : Type 0} → (p : Event × Answered) (ps : List (Event × Answered)) → [] ≡ (p ∷ ps) → X
none_cons p ps e = cc

pub loads_current : (n : NetworkParts) (ls : List Load) (es : List Entry) (s : Plant) → Run wire n es s → map done_by es ≡ map load_event ls → AllDiffer ls → AreCurrent s ls
loads_current n [] es s run are differ = tt
loads_current n (l ∷ ls) [] s run are differ = none_cons (load_event l) (map load_event ls) are
loads_current n (l ∷ ls) (e ∷ es) s run are differ =
    let one : done_by e ≡ load_event l = pairs_head (done_by e) (load_event l) (map done_by es) (map load_event ls) are in
    let event : e.event ≡ event.Load l.at l.rows = ap (λ (p : Event × Answered). p.0) one in
    let fine : is_accepted e.answer ≡ true = ap (λ (p : Event × Answered). is_accepted p.1) one in
    let h : Happened = record { answer = e.answer; state = s; deeds = e.deeds } in
    let leaves : Leaves l.at l.rows run.0 s = step_leaves n l.at l.rows run.0 h (subst (λ (v : Event). Steps wire n run.0 v h) event run.3) fine in
    (leaves.own, still_current l.at l.rows run.0 s leaves ls differ.0 (loads_current n ls es run.0 run.1 (pairs_tail (done_by e) (load_event l) (map done_by es) (map load_event ls) are) differ.1))

-- ---- their order

pub events_reversed : (ls : List Load) → load_events ls ≡ map load_event (reverse ls)
events_reversed [] = refl
events_reversed (l ∷ ls) =
    ap (λ (ps : List (Event × Answered)). ps ++ load_event l ∷ []) (events_reversed ls)
    ∙ sym (map-append load_event (reverse ls) (l ∷ [])) ∙ ap (map load_event) (sym (reverse-append (l ∷ []) ls))

all_snoc : (P : Load → Type 0) (ls : List Load) (l : Load) → AllByRecursion P ls → P l → AllByRecursion P (ls ++ l ∷ [])
all_snoc P [] l all here = (here, tt)
all_snoc P (m ∷ ls) l all here = (all.0, all_snoc P ls l all.1 here)

pub all_reversed : (P : Load → Type 0) (ls : List Load) → AllByRecursion P ls → AllByRecursion P (reverse ls)
all_reversed P [] all = tt
all_reversed P (l ∷ ls) all = subst (AllByRecursion P) (sym (reverse-append (l ∷ []) ls)) (all_snoc P (reverse ls) l (all_reversed P ls all.1) all.0)

differ_snoc : (ls : List Load) (l : Load) → AllDiffer ls → DifferFrom l.at ls → AllDiffer (ls ++ l ∷ [])
differ_snoc [] l differ from = (tt, tt)
differ_snoc (m ∷ ls) l differ from =
    (all_snoc (λ (k : Load). m.at ≢ k.at) ls l differ.0 (λ same. from.0 (sym same)), differ_snoc ls l differ.1 from.1)

pub differ_reversed : (ls : List Load) → AllDiffer ls → AllDiffer (reverse ls)
differ_reversed [] differ = tt
differ_reversed (l ∷ ls) differ =
    subst AllDiffer (sym (reverse-append (l ∷ []) ls)) (differ_snoc (reverse ls) l (differ_reversed ls differ.1) (all_reversed (λ (m : Load). l.at ≢ m.at) ls differ.0))

-- ---- what is told of them

-- the event of a load
abbrev pub loaded : Load → Event
loaded l = event.Load l.at l.rows

told_newest : (ls : List Load) (es : List Entry) → map done_by es ≡ map load_event ls → events_by (told es) ≡ map loaded (reverse ls)
told_newest [] [] are = refl
told_newest [] (e ∷ es) are = none_cons (done_by e) (map done_by es) (sym are)
told_newest (l ∷ ls) [] are = none_cons (load_event l) (map load_event ls) are
told_newest (l ∷ ls) (e ∷ es) are =
    let one : done_by e ≡ load_event l = pairs_head (done_by e) (load_event l) (map done_by es) (map load_event ls) are in
    let below : events_by (told es) ≡ map loaded (reverse ls) = told_newest ls es (pairs_tail (done_by e) (load_event l) (map done_by es) (map load_event ls) are) in
    first e l one (told es)
    ∙ ap (λ (vs : List Event). vs ++ loaded l ∷ []) below
    ∙ sym (map-append loaded (reverse ls) (l ∷ [])) ∙ ap (map loaded) (sym (reverse-append (l ∷ []) ls))
  where
    first : (e : Entry) (l : Load) → done_by e ≡ load_event l → (older : List Entry) → events_by (cond (is_told e.event e.answer) (e ∷ older) older) ≡ events_by older ++ loaded l ∷ []
    first e l one older =
        let is : is_told e.event e.answer ≡ true = ap (λ (p : Event × Answered). is_told p.0 p.1) one in
        ap (λ (b : Bool). events_by (cond b (e ∷ older) older)) is ∙ ap (λ (v : Event). events_by older ++ v ∷ []) (ap (λ (p : Event × Answered). p.0) one)

pub loads_told : (ls : List Load) (es : List Entry) → map done_by es ≡ load_events ls → events_by (told es) ≡ map loaded ls
loads_told ls es are = told_newest (reverse ls) es (are ∙ events_reversed ls) ∙ ap (map loaded) (reverse-reverse ls)
