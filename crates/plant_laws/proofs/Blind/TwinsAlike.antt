-- Two runs that differ in the loads of one element go on alike over the pins of the other elements.
use Rattle.std.proofs.Common.{◌≡◌, ℕ, suc, Bool, true, false, cond, nat_eq, List, [], ◌∷◌, ◌++◌, Option, Some, None, sym, ◌∙◌, ap, subst, inl, inr, refl}
use Rattle.std.specs.Map.{lookup}
use Rattle.std.proofs.lemmas.Bool.{eq-eqb}
use Rattle.plant_model.specs.Types.{As, Held, Best, Branch, NetworkParts}
use Rattle.te_links.specs.Rows.{Rows}
use Rattle.plant_model.specs.declared.outcome.Refused.TheVariants.{GenerationsFull, NoSuchPeer}
use Rattle.border_costs.specs.Solutions.{AreBest}
use Rattle.plant_model.specs.declared.event.Event.{Event}
use Rattle.plant_model.specs.declared.event.Event.TheVariants as event
use Rattle.plant_text.specs.Names.{same_as, parent_as}
use Rattle.plant_model.specs.Names.{set_as}
use Rattle.plant_model.specs.Wire.{Codec}
use Rattle.plant_model.specs.Branches.{downs}
use Rattle.plant_model.specs.Jobs.{target_along, IsJoinOf}
use Rattle.plant_model.specs.Element.{Item, Stage, Ready, is_client}
use Rattle.plant_model.specs.BorderGraph.{Found, SolvesBorder}
use Rattle.plant_model.specs.Parent as parent
use Rattle.plant_text.specs.Settings.{is_element}
use Rattle.plant_model.specs.Settings.{family}
use Rattle.plant_model.specs.Events as events
use Rattle.plant_model.specs.Plant.{Pin, Plant, PlantDeed, Happened, Entry, Run, Steps, Happens, deeds_of, first_pin, ask, load, load_new, refused, is_full, ElementSolves, ParentSolves, SolveHappens}
use Rattle.plant_model.specs.Blind.{Heard, heard, is_accepted}
use Rattle.plant_laws.specs.Twins.{HasOneTable, AreTwins, opening, one_loads, other_loads, both, TwinWorlds}
use Rattle.plant_laws.proofs.Runs.Queues.{same_as_is}
use Rattle.plant_laws.proofs.Runs.Sound.{IsFit, Sound, run_sound}
use Rattle.plant_laws.proofs.Runs.Lists.{rising_of}
use Rattle.plant_laws.proofs.Least.BorderJoins.{border_joins}
use Rattle.plant_laws.proofs.Least.EntriesRise.{entries_rise}
use Rattle.plant_laws.proofs.Runs.Refused.{refused_same}
use Rattle.plant_laws.proofs.Blind.Strip.{bare_held}
use Rattle.plant_laws.proofs.Blind.Simulate.{Blank, Full, Sim}
use Rattle.plant_laws.proofs.Blind.SimulateEvents.{Happen, open_happens, shut_happens, feed_happens, take_happens, carry_happens, break_happens, tick_happens, drain_happens}
use Rattle.plant_laws.proofs.Blind.OneJoin.{AllOne, all_one, one_join}
use Rattle.plant_laws.proofs.Blind.OneBest.{one_best}
use Rattle.plant_laws.proofs.Blind.OneBorder.{Apart, FarsDiffer, fars_of, one_answer}
use Rattle.plant_laws.proofs.Blind.Viewed.{seen_opening, seen_solve, seen_upper, held_seen, client_seen, closed_seen, upper_seen, opened_both, heard_append}

abbrev Q : Type 0
Q = Option Pin

abbrev U : Type 0
U = Unit {0}

-- the pins of all elements but one
abbrev pub but : As → As → Pin → Option Pin
but d e p = cond (same_as e d) None (Some p)

abbrev or : Pin → Option Pin → Pin
or p None = p
or p (Some q) = q

abbrev back : Pin → Held (Item (Option Pin)) → Held (Item Pin)
back p h = record {
  key = h.key;
  item = record { class = h.item.class; flags = h.item.flags; wanted = h.item.wanted; sequence = h.item.sequence; pin = or p h.item.pin; stage = h.item.stage };
}

some_one : {A : Type 0} (x y : A) → Some x ≡ Some y → x ≡ y
some_one x y e = cc

held_one : {A : Type 0} (x y : A) (o : Option A) → o ≡ Some x → o ≡ Some y → x ≡ y
held_one {A = A} x y o e f = some_one x y (sym e ∙ f)

ready_one : (a b : List Branch) (s : Stage) → s ≡ Ready a → s ≡ Ready b → a ≡ b
ready_one a b s e f = let same : Ready a ≡ Ready b = sym e ∙ f in cc

not_both : {X : Type 0} (t : Bool) → t ≡ true → t ≡ false → X
not_both true e f = cc
not_both false e f = cc

module _ (c : Codec) (n : NetworkParts) (fars : FarsDiffer n) (d : As) where
  abbrev view : As → Pin → Q
  view = but d

  abbrev Alike' : Full → Blank Q → Type 0
  Alike' s b = Sim Q view n s b

  -- one state that both are alike to
  record Result (h h' : Happened) : Type 0 where
    pub state : Blank Q
    pub sim : Alike' h.state state
    pub sim' : Alike' h'.state state
    pub heard' : heard c n h.deeds ≡ heard c n h'.deeds

  of_two : (h h' : Happened) (k : events.Happened Q U) → Happen Q view c n h k → Happen Q view c n h' k → Result h h'
  of_two h h' k x y = record { state = k.state; sim = x.sim; sim' = y.sim; heard' = x.heard' ∙ sym y.heard' }

  determined : (h h' f f' : Happened) (k : events.Happened Q U) → h ≡ f → h' ≡ f' → Happen Q view c n f k → Happen Q view c n f' k → Result h h'
  determined h h' f f' k e e' x y =
      of_two h h' k (subst (λ (g : Happened). Happen Q view c n g k) (sym e) x) (subst (λ (g : Happened). Happen Q view c n g k) (sym e') y)

  -- loads
  abbrev new_pin : As → Rows → Plant → Pin
  new_pin e g s = record { number = suc (s.current e).number; topology = g }

  loaded_new : (e : As) (g : Rows) (s : Plant) (h : Happened) → h ≡ load c n e g s → is_accepted h.answer ≡ true → h ≡ load_new c n e g s
  loaded_new e g s h is ok = is ∙ go (is_element n e) (is_full (s.current e).number (s.elements e).pending.rows) (ap (λ (z : Happened). is_accepted z.answer) (sym is) ∙ ok)
    where
      go : (t u : Bool) → is_accepted (cond t (cond u (refused c n GenerationsFull s) (load_new c n e g s)) (refused c n NoSuchPeer s)).answer ≡ true →
          cond t (cond u (refused c n GenerationsFull s) (load_new c n e g s)) (refused c n NoSuchPeer s) ≡ load_new c n e g s
      go true true f = let no : false ≡ true = f in cc
      go true false f = refl
      go false u f = let no : false ≡ true = f in cc

  pin_set : (e x : As) (t : Bool) → same_as e x ≡ t → (p : Pin) (q : Q) (r : Pin) → q ≡ view x r → cond t (view e p) q ≡ view x (cond t p r)
  pin_set e x true is p q r same = ap (λ (z : As). view z p) (same_as_is e x is)
  pin_set e x false is p q r same = same

  load_sim : (e : As) (g : Rows) (s : Plant) (b : Blank Q) → Alike' s b → Alike' (load_new c n e g s).state (record b { current = set_as e (view e (new_pin e g s)) b.current })
  load_sim e g s b sim = record {
    clock = sim.clock;
    elements = sim.elements;
    parent = sim.parent;
    current = λ x. pin_set e x (same_as e x) refl (new_pin e g s) (b.current x) (s.current x) (sim.current x);
    sessions = sim.sessions;
    queues = sim.queues;
    accesses = sim.accesses;
  }

  same_new : (e : As) (g : Rows) (s t : Plant) → (u : Bool) → cond u None (Some (s.current e)) ≡ cond u None (Some (t.current e)) → cond u None (Some (new_pin e g s)) ≡ cond u None (Some (new_pin e g t))
  same_new e g s t true is = refl
  same_new e g s t false is = ap (λ (p : Pin). let new : Pin = record { number = suc p.number; topology = g } in Some new) (some_one (s.current e) (t.current e) is)

  load_pair : (e : As) (g : Rows) (s t : Plant) (b : Blank Q) (h h' : Happened) → Alike' s b → Alike' t b → h ≡ load_new c n e g s → h' ≡ load_new c n e g t → Result h h'
  load_pair e g s t b h h' sim sim' is is' =
      let pins : view e (new_pin e g s) ≡ view e (new_pin e g t) = same_new e g s t (same_as e d) (sym (sim.current e) ∙ sim'.current e) in
      record {
        state = record b { current = set_as e (view e (new_pin e g s)) b.current };
        sim = subst (λ (k : Happened). Alike' k.state (record b { current = set_as e (view e (new_pin e g s)) b.current })) (sym is) (load_sim e g s b sim);
        sim' = subst (λ (p : Q). Alike' h'.state (record b { current = set_as e p b.current })) (sym pins)
            (subst (λ (k : Happened). Alike' k.state (record b { current = set_as e (view e (new_pin e g t)) b.current })) (sym is') (load_sim e g t b sim'));
        heard' = ap (λ (k : Happened). heard c n k.deeds) is ∙ sym (ap (λ (k : Happened). heard c n k.deeds) is');
      }

  -- a load at d is not seen
  unseen : (x : As) (p : Pin) (r : Pin) (q : Q) → (t : Bool) → same_as d x ≡ t → q ≡ view x r → q ≡ view x (cond t p r)
  unseen x p r q true is same =
      let here : same_as x d ≡ true = eq-eqb x.0 d.0 (ap (λ (z : As). z.0) (sym (same_as_is d x is))) in
      same ∙ ap (λ (u : Bool). cond u None (Some r)) here ∙ sym (ap (λ (u : Bool). cond u None (Some p)) here)
  unseen x p r q false is same = same

  record Unheard (b : Blank Q) (h : Happened) : Type 0 where
    pub sim : Alike' h.state b
    pub heard' : heard c n h.deeds ≡ []

  load_unheard : (g : Rows) (s : Plant) (b : Blank Q) (h : Happened) → Alike' s b → Steps c n s (event.Load d g) h → Unheard b h
  load_unheard g s b h sim (inr none) = subst (Unheard b) (sym none.1) (record { sim = sim; heard' = refl })
  load_unheard g s b h sim (inl is) = subst (Unheard b) (sym is) (go (is_element n d) (is_full (s.current d).number (s.elements d).pending.rows))
    where
      go : (t u : Bool) → Unheard b (cond t (cond u (refused c n GenerationsFull s) (load_new c n d g s)) (refused c n NoSuchPeer s))
      go true true = record { sim = sim; heard' = refl }
      go false u = record { sim = sim; heard' = refl }
      go true false = record {
        sim = record {
          clock = sim.clock;
          elements = sim.elements;
          parent = sim.parent;
          current = λ x. unseen x (new_pin d g s) (s.current x) (b.current x) (same_as d x) refl (sim.current x);
          sessions = sim.sessions;
          queues = sim.queues;
          accesses = sim.accesses;
        };
        heard' = refl;
      }

  -- a solve
  module _ (e : As) (k : ℕ) (s t : Plant) (b : Blank Q) (sim : Alike' s b) (sim' : Alike' t b) (sound : Sound n s) (sound' : Sound n t) (h h' : Happened) where
    module _ (x : ElementSolves c n e k s h) (y : ElementSolves c n e k t h') where
      held : bare_held (view e) x.held ≡ bare_held (view e) y.held
      held = held_one (bare_held (view e) x.held) (bare_held (view e) y.held) (lookup (nat_eq k) (b.elements e).pending.rows) (held_seen Q view c n e k s b sim h x) (held_seen Q view c n e k t b sim' h' y)

      down : x.down ≡ y.down
      down = ready_one x.down y.down x.held.item.stage x.ready (ap (λ (z : Held (Item Q)). z.item.stage) held ∙ y.ready)

      fit : IsFit n x.held
      fit = sound e k x.held x.is_held

      fit' : IsFit n y.held
      fit' = sound' e k y.held y.is_held

      same_class : x.held.item.class ≡ y.held.item.class
      same_class = ap (λ (z : Held (Item Q)). z.item.class) held

      -- by the border table
      by_table : HasOneTable c n e k s t → is_client x.held.item.class ≡ false → AllOne x.rows.best y.rows.best
      by_table tables closed =
          let table = tables x.held y.held x.down y.down x.is_held x.ready y.is_held y.ready closed in
          let j = border_joins x.held.item.pin.topology (ask c n e (k, x.held) x.down) x.rows table.0 fit.1
          (entries_rise x.held.item.class x.held.item.wanted.source x.held.item.pin.topology fit.1) x.right table.1 in
          let j' = border_joins y.held.item.pin.topology (ask c n e (k, y.held) y.down) y.rows table.0 fit'.1
          (entries_rise y.held.item.class y.held.item.wanted.source y.held.item.pin.topology fit'.1) y.right table.2 in
          one_join x.held.item.wanted.query.cap (target_along x.held.item.sequence x.held.item.wanted.target) table.0 (downs x.down) x.rows.best y.rows.best table.1.order j
          (subst (λ (l : List Branch). IsJoinOf x.held.item.wanted.query.cap (target_along x.held.item.sequence x.held.item.wanted.target) table.0 (downs l) y.rows.best) (sym down)
          (subst (λ (z : Held (Item Q)). IsJoinOf z.item.wanted.query.cap (target_along z.item.sequence z.item.wanted.target) table.0 (downs y.down) y.rows.best) (sym held) j'))

      -- or by the pins, which are the same
      whole : (z : Held (Item Pin)) → same_as e d ≡ false → z ≡ back (first_pin d) (bare_held (view e) z)
      whole z is = ap (λ (u : Bool). made (or (first_pin d) (cond u None (Some z.item.pin)))) (sym is)
        where
          made : Pin → Held (Item Pin)
          made p = record {
            key = z.key;
            item = record { class = z.item.class; flags = z.item.flags; wanted = z.item.wanted; sequence = z.item.sequence; pin = p; stage = z.item.stage };
          }

      by_pins : same_as e d ≡ false → AllOne x.rows.best y.rows.best
      by_pins other =
          let same : y.held ≡ x.held = whole y.held other ∙ ap (back (first_pin d)) (sym held) ∙ sym (whole x.held other) in
          let a = ask c n e (k, x.held) x.down in
          one_best x.held.item.pin.topology a fit.1 x.right.seeds y.right.seeds a.entries x.rows.best y.rows.best x.right.best
          (subst (λ (l : List Branch). AreBest x.held.item.pin.topology (ask c n e (k, x.held) l) y.right.seeds (ask c n e (k, x.held) l).entries y.rows.best) (sym down)
          (subst (λ (z : Held (Item Pin)). AreBest z.item.pin.topology (ask c n e (k, z) y.down) y.right.seeds (ask c n e (k, z) y.down).entries y.rows.best) same y.right.best))

      answers : (u : Bool) → same_as e d ≡ u → ((e ≡ d) → HasOneTable c n e k s t) → is_client x.held.item.class ≡ false → AllOne x.rows.best y.rows.best
      answers true is tables closed = by_table (tables (same_as_is e d is)) closed
      answers false is tables closed = by_pins is

      -- the second does what the first does
      as_first : (best : List Best) → seen_solve Q view c n e (k, bare_held (view e) y.held) y.down best b ≡ seen_solve Q view c n e (k, bare_held (view e) x.held) x.down best b
      as_first best =
          ap (λ (z : Held (Item Q)). seen_solve Q view c n e (k, z) y.down best b) (sym held)
          ∙ ap (λ (l : List Branch). seen_solve Q view c n e (k, bare_held (view e) x.held) l best b) (sym down)

      solve_pair : ((e ≡ d) → HasOneTable c n e k s t) → (u : Bool) → is_client x.held.item.class ≡ u → Result h h'
      solve_pair tables true client =
          of_two h h' (seen_solve Q view c n e (k, bare_held (view e) x.held) x.down [] b) (client_seen Q view c n e k s b sim h x client fit.0)
          (subst (λ (z : events.Happened Q U). Happen Q view c n h' z) (as_first []) (client_seen Q view c n e k t b sim' h' y (ap is_client (sym same_class) ∙ client) fit'.0))
      solve_pair tables false closed =
          of_two h h' (seen_solve Q view c n e (k, bare_held (view e) x.held) x.down y.rows.best b)
          (closed_seen Q view c n e k s b sim h x y.rows.best closed (answers (same_as e d) refl tables closed))
          (subst (λ (z : events.Happened Q U). Happen Q view c n h' z) (as_first y.rows.best)
          (closed_seen Q view c n e k t b sim' h' y y.rows.best (ap is_client (sym same_class) ∙ closed) (all_one y.rows.best)))

    upper_pair : ParentSolves c n k s h → ParentSolves c n k t h' → Result h h'
    upper_pair x y =
        let held : x.held ≡ y.held = held_one x.held y.held (lookup (nat_eq k) b.parent.pending.rows)
        (ap (λ (p : parent.Parent). lookup (nat_eq k) p.pending.rows) sim.parent ∙ x.is_held) (ap (λ (p : parent.Parent). lookup (nat_eq k) p.pending.rows) sim'.parent ∙ y.is_held) in
        let answer : x.answer ≡ y.answer = one_answer (parent.job_of (family n) (k, x.held)) (rising_of Apart n.parent_links fars) x.answer y.answer x.solves
        (subst (λ (z : Held parent.Asking). SolvesBorder (parent.job_of (family n) (k, z)) y.answer) (sym held) y.solves) in
        of_two h h' (seen_upper Q view c n (k, x.held) x.answer b) (upper_seen Q view c n k s b sim h x)
        (subst (λ (z : events.Happened Q U). Happen Q view c n h' z)
        (ap (λ (z : Held parent.Asking). seen_upper Q view c n (k, z) y.answer b) (sym held) ∙ ap (λ (a : Option Found). seen_upper Q view c n (k, x.held) a b) (sym answer))
        (upper_seen Q view c n k t b sim' h' y))

    at_parent : {X : Type 0} → same_as e parent_as ≡ false → e ≡ parent_as → X
    at_parent upper is = not_both (same_as e parent_as) (eq-eqb e.0 parent_as.0 (ap (λ (z : As). z.0) is)) upper

    refused_not : {X : Type 0} (g k : Happened) → g ≡ k → is_accepted g.answer ≡ true → is_accepted k.answer ≡ false → X
    refused_not g k is ok none = not_both (is_accepted g.answer) ok (ap (λ (z : Happened). is_accepted z.answer) is ∙ none)

    job_pair : ((e ≡ d) → HasOneTable c n e k s t) → is_accepted h.answer ≡ true → is_accepted h'.answer ≡ true → SolveHappens c n e k s h → SolveHappens c n e k t h' → Result h h'
    job_pair tables ok ok' (inl x) y = refused_not h _ x.1 ok refl
    job_pair tables ok ok' (inr (inl x)) y = refused_not h _ x.2 ok refl
    job_pair tables ok ok' (inr (inr (inl x))) (inl y) = refused_not h' _ y.1 ok' refl
    job_pair tables ok ok' (inr (inr (inl x))) (inr (inl y)) = refused_not h' _ y.2 ok' refl
    job_pair tables ok ok' (inr (inr (inl x))) (inr (inr (inl y))) = solve_pair x.1 y.1 tables (is_client x.1.held.item.class) refl
    job_pair tables ok ok' (inr (inr (inl x))) (inr (inr (inr y))) = at_parent x.1.upper y.1
    job_pair tables ok ok' (inr (inr (inr x))) (inl y) = refused_not h' _ y.1 ok' refl
    job_pair tables ok ok' (inr (inr (inr x))) (inr (inl y)) = refused_not h' _ y.2 ok' refl
    job_pair tables ok ok' (inr (inr (inr x))) (inr (inr (inl y))) = at_parent y.1.upper x.1
    job_pair tables ok ok' (inr (inr (inr x))) (inr (inr (inr y))) = upper_pair x.2 y.2

  -- one event in both
  module _ (s t : Plant) (b : Blank Q) (sim : Alike' s b) (sim' : Alike' t b) (sound : Sound n s) (sound' : Sound n t) where
    happens_pair : (e : Event) (h h' : Happened) → Happens c n s e h → Happens c n t e h' → is_accepted h.answer ≡ true → is_accepted h'.answer ≡ true →
        ((k : ℕ) → e ≡ event.Solve d k → HasOneTable c n d k s t) → Result h h'
    happens_pair (event.Load e g) h h' is is' ok ok' tables = load_pair e g s t b h h' sim sim' (loaded_new e g s h is ok) (loaded_new e g t h' is' ok')
    happens_pair (event.Open i holder) h h' is is' ok ok' tables = determined h h' _ _ (events.open_peer Q U c n (λ u. []) i holder b) is is' (open_happens Q view c n i holder s b sim) (open_happens Q view c n i holder t b sim')
    happens_pair (event.Shut i) h h' is is' ok ok' tables = determined h h' _ _ (events.shut Q U c n (λ u. []) i b) is is' (shut_happens Q view c n i s b sim) (shut_happens Q view c n i t b sim')
    happens_pair (event.Feed i bytes) h h' is is' ok ok' tables = determined h h' _ _ (events.feed Q U c n (λ u. []) i bytes b) is is' (feed_happens Q view c n i bytes s b sim) (feed_happens Q view c n i bytes t b sim')
    happens_pair (event.Take i) h h' is is' ok ok' tables = determined h h' _ _ (events.take Q U c n (λ u. []) i b) is is' (take_happens Q view c n i s b sim) (take_happens Q view c n i t b sim')
    happens_pair (event.Carry x y) h h' is is' ok ok' tables = determined h h' _ _ (events.carry Q U c n (λ u. []) x y b) is is' (carry_happens Q view c n x y s b sim) (carry_happens Q view c n x y t b sim')
    happens_pair (event.Break x y) h h' is is' ok ok' tables = determined h h' _ _ (events.break Q U c n (λ u. []) x y b) is is' (break_happens Q view c n x y s b sim) (break_happens Q view c n x y t b sim')
    happens_pair (event.Tick now) h h' is is' ok ok' tables = determined h h' _ _ (events.tick Q U c n (λ u. []) now.0 b) is is' (tick_happens Q view c n now.0 s b sim) (tick_happens Q view c n now.0 t b sim')
    happens_pair (event.Drain i holder) h h' is is' ok ok' tables = determined h h' _ _ (events.drain Q U c n (λ u. []) i holder b) is is' (drain_happens Q view c n i holder s b sim) (drain_happens Q view c n i holder t b sim')
    happens_pair (event.Solve e k) h h' is is' ok ok' tables =
        job_pair e k s t b sim sim' sound sound' h h'
        (λ same. subst (λ (z : As). HasOneTable c n z k s t) (sym same) (tables k (ap (λ (z : As). event.Solve z k) same))) ok ok' is is'

    steps_pair : (e : Event) (h h' : Happened) → Steps c n s e h → Steps c n t e h' → ((k : ℕ) → e ≡ event.Solve d k → HasOneTable c n d k s t) →
        (u : Bool) → is_accepted h.answer ≡ u → is_accepted h'.answer ≡ u → Result h h'
    steps_pair e h h' x y tables false none none' =
        let same = refused_same c n s e h x none in
        let same' = refused_same c n t e h' y none' in
        record {
          state = b;
          sim = subst (λ (z : Full). Alike' z b) (sym same.state) sim;
          sim' = subst (λ (z : Full). Alike' z b) (sym same'.state) sim';
          heard' = ap (λ (ds : List PlantDeed). heard c n ds) same.deeds ∙ sym (ap (λ (ds : List PlantDeed). heard c n ds) same'.deeds);
        }
    steps_pair e h h' (inl x) (inl y) tables true ok ok' = happens_pair e h h' x y ok ok' tables
    steps_pair e h h' (inr none) y tables true ok ok' = not_both (is_accepted h.answer) ok (ap (λ (z : Happened). is_accepted z.answer) none.1)
    steps_pair e h h' (inl x) (inr none) tables true ok ok' = not_both (is_accepted h'.answer) ok' (ap (λ (z : Happened). is_accepted z.answer) none.1)

  -- the runs
  record Pair (es : List Entry) (s : Plant) (fs : List Entry) (t : Plant) : Type 0 where
    pub run : Run c n es s
    pub run' : Run c n fs t
    pub state : Blank Q
    pub sim : Alike' s state
    pub sim' : Alike' t state
    pub heard' : heard c n (deeds_of c n es) ≡ heard c n (deeds_of c n fs)

  abbrev at : Entry → Plant → Happened
  at e s = record { answer = e.answer; state = s; deeds = e.deeds }

  longer : (e : Entry) (es : List Entry) → heard c n (deeds_of c n (e ∷ es)) ≡ heard c n (deeds_of c n es) ++ heard c n e.deeds
  longer e es = heard_append Q view c n e.deeds (deeds_of c n es)

  nothing_more : (xs : List Heard) → xs ++ [] ≡ xs
  nothing_more [] = refl
  nothing_more (x ∷ xs) = ap (λ (l : List Heard). x ∷ l) (nothing_more xs)

  pairs : (es : List Entry) (s : Plant) (fs : List Entry) (t : Plant) → AreTwins c n d es s fs t → Pair es s fs t
  pairs es s fs t opening = record {
    run = refl;
    run' = refl;
    state = (seen_opening Q view c n).state;
    sim = (opened_both Q view c n).sim;
    sim' = (opened_both Q view c n).sim;
    heard' = refl;
  }
  pairs es0 s0 fs0 t0 (one_loads es fs s t s' e g twins is goes) =
      let p = pairs es s fs t twins in
      let un = load_unheard g s p.state (at e s') p.sim (subst (λ (v : Event). Steps c n s v (at e s')) is goes.1) in
      record {
        run = (s, p.run, goes.0, goes.1);
        run' = p.run';
        state = p.state;
        sim = un.sim;
        sim' = p.sim';
        heard' = longer e es ∙ ap (λ (l : List Heard). heard c n (deeds_of c n es) ++ l) un.heard' ∙ nothing_more (heard c n (deeds_of c n es)) ∙ p.heard';
      }
  pairs es0 s0 fs0 t0 (other_loads es fs s t t' f g twins is goes) =
      let p = pairs es s fs t twins in
      let un = load_unheard g t p.state (at f t') p.sim' (subst (λ (v : Event). Steps c n t v (at f t')) is goes.1) in
      record {
        run = p.run;
        run' = (t, p.run', goes.0, goes.1);
        state = p.state;
        sim = p.sim;
        sim' = un.sim;
        heard' = p.heard' ∙ sym (longer f fs ∙ ap (λ (l : List Heard). heard c n (deeds_of c n fs) ++ l) un.heard' ∙ nothing_more (heard c n (deeds_of c n fs)));
      }
  pairs es0 s0 fs0 t0 (both es fs s t s' t' e f twins same ok tables goes goes') =
      let p = pairs es s fs t twins in
      let r = steps_pair s t p.state p.sim p.sim' (run_sound c n es s p.run) (run_sound c n fs t p.run') e.event (at e s') (at f t') goes.1
      (subst (λ (v : Event). Steps c n t v (at f t')) same goes'.1) tables (is_accepted e.answer) refl ok in
      record {
        run = (s, p.run, goes.0, goes.1);
        run' = (t, p.run', goes'.0, goes'.1);
        state = r.state;
        sim = r.sim;
        sim' = r.sim';
        heard' = longer e es ∙ ap (λ (l : List Heard). l ++ heard c n e.deeds) p.heard' ∙ ap (λ (l : List Heard). heard c n (deeds_of c n fs) ++ l) r.heard' ∙ sym (longer f fs);
      }

pub twin_worlds : TwinWorlds
twin_worlds c n network d es fs s t twins = (pairs c n (fars_of n network) d es s fs t twins).heard'
