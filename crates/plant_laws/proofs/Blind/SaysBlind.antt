-- What closed peers hear in a run is what the blind plant says on its disclosed trace.
use Rattle.std.proofs.Common.{◌≡◌, ℕ, Bool, true, false, cond, nat_eq, List, [], ◌∷◌, ◌++◌, sym, ◌∙◌, ap, subst, inl, inr, refl}
use Rattle.std.specs.Map.{lookup}
use Rattle.plant_model.specs.Types.{As, BorderRow, Best, NetworkParts}
use Rattle.te_links.specs.Rows.{Rows}
use Rattle.disclosure.specs.Shown.{open_of}
use Rattle.plant_model.specs.declared.outcome.Refused.TheVariants.{GenerationsFull, NoSuchPeer}
use Rattle.border_costs.specs.Tables.{IsBorderTable}
use Rattle.plant_model.specs.declared.event.Event.{Event}
use Rattle.plant_model.specs.declared.event.Event.TheVariants as event
use Rattle.plant_model.specs.declared.event.BlindEvent.{BlindEvent}
use Rattle.plant_model.specs.declared.event.BlindEvent.TheVariants as blind
use Rattle.plant_text.specs.Names.{same_as, parent_as}
use Rattle.plant_model.specs.Wire.{Codec}
use Rattle.plant_model.specs.Branches.{downs}
use Rattle.plant_model.specs.Jobs.{target_along, IsJoinOf}
use Rattle.plant_model.specs.Element.{is_client}
use Rattle.plant_model.specs.Parent as parent
use Rattle.plant_text.specs.Settings.{is_element}
use Rattle.plant_model.specs.Events as events
use Rattle.plant_model.specs.Plant.{Pin, Segment, Plant, Happened, Entry, Run, Steps, Happens, opened, deeds_of, ask, load, load_new, refused, is_full, ElementSolves, ParentSolves, SolveHappens}
use Rattle.plant_model.specs.Blind.{BlindHappened, BlindSolves, BlindUpperSolves, BlindHappens, BlindSays, Heard, heard, blind_opened, Discloses, blind_of, with_event, is_accepted}
use Rattle.plant_laws.specs.Worlds.{DisclosedRun, BlindAccepts, SaysAsBlind, AcceptsAsBlind}
use Rattle.plant_laws.proofs.Runs.Decompose.{nil_right}
use Rattle.plant_laws.proofs.Runs.Sound.{IsFit, Sound, run_sound}
use Rattle.plant_laws.proofs.Least.BorderJoins.{border_joins}
use Rattle.plant_laws.proofs.Blind.OneJoin.{all_one}
use Rattle.plant_laws.proofs.Blind.Viewed.{seen_solve, seen_upper, held_seen, client_seen, closed_seen, upper_seen, opened_both, heard_append}
use Rattle.plant_laws.proofs.Least.EntriesRise.{entries_rise}
use Rattle.plant_laws.proofs.Runs.Refused.{refused_same}
use Rattle.plant_laws.proofs.Blind.Strip.{bare_held}
use Rattle.plant_laws.proofs.Blind.Simulate.{Blank, Full, Sim}
use Rattle.plant_laws.proofs.Blind.SimulateEvents.{Happen, open_happens, shut_happens, feed_happens, take_happens, carry_happens, break_happens, tick_happens, drain_happens}

-- nothing is seen of the pins
abbrev pub blindly : As → Pin → Unit {0}
blindly d p = tt

module _ (c : Codec) (n : NetworkParts) where
  abbrev P : Type 0
  P = Unit {0}

  -- a solve of an element
  module _ (d : As) (k : ℕ) (s : Full) (b : Blank P) (sim : Sim P blindly n s b) (sound : Sound n s) where
    abbrev Solved : (rows : List BorderRow) → Happened → Type 0
    Solved rows h = (h' : BlindHappened) × BlindSolves c n d k rows b h' × Happen P blindly c n h h'

    solved : (rows : List BorderRow) (h : Happened) (x : ElementSolves c n d k s h) →
        (t : Bool) → is_client x.held.item.class ≡ t → cond t (rows ≡ []) (IsBorderTable x.held.item.pin.topology (ask c n d (k, x.held) x.down) rows) → Solved rows h
    solved rows h x t is disclosed =
        go t is disclosed
      where
        fit : IsFit n x.held
        fit = sound d k x.held x.is_held

        go : (t : Bool) → is_client x.held.item.class ≡ t → cond t (rows ≡ []) (IsBorderTable x.held.item.pin.topology (ask c n d (k, x.held) x.down) rows) → Solved rows h
        go true client disclosed = (
          seen_solve P blindly c n d (k, bare_held (blindly d) x.held) x.down [] b,
          record {
            upper = x.upper;
            held = bare_held (blindly d) x.held;
            is_held = held_seen P blindly c n d k s b sim h x;
            down = x.down;
            ready = x.ready;
            best = [];
            joined = subst (λ (u : Bool). cond u (◌≡◌ {A = List Best} [] []) (IsJoinOf x.held.item.wanted.query.cap (target_along x.held.item.sequence x.held.item.wanted.target) rows (downs x.down) [])) (sym client) refl;
            is = refl;
          },
          client_seen P blindly c n d k s b sim h x client fit.0,
        )
        go false closed disclosed = (
          seen_solve P blindly c n d (k, bare_held (blindly d) x.held) x.down x.rows.best b,
          record {
            upper = x.upper;
            held = bare_held (blindly d) x.held;
            is_held = held_seen P blindly c n d k s b sim h x;
            down = x.down;
            ready = x.ready;
            best = x.rows.best;
            joined = subst (λ (u : Bool). cond u (x.rows.best ≡ []) (IsJoinOf x.held.item.wanted.query.cap (target_along x.held.item.sequence x.held.item.wanted.target) rows (downs x.down) x.rows.best)) (sym closed)
                (border_joins x.held.item.pin.topology (ask c n d (k, x.held) x.down) x.rows rows fit.1
                (entries_rise x.held.item.class x.held.item.wanted.source x.held.item.pin.topology fit.1) x.right disclosed);
            is = refl;
          },
          closed_seen P blindly c n d k s b sim h x x.rows.best closed (all_one x.rows.best),
        )

  -- and one of the parent
  upper_solved : (k : ℕ) (s : Full) (b : Blank P) → Sim P blindly n s b → (h : Happened) (x : ParentSolves c n k s h) → (h' : BlindHappened) × BlindUpperSolves c n k b h' × Happen P blindly c n h h'
  upper_solved k s b sim h x = (
    seen_upper P blindly c n (k, x.held) x.answer b,
    record {
      held = x.held;
      is_held = ap (λ (p : parent.Parent). lookup (nat_eq k) p.pending.rows) sim.parent ∙ x.is_held;
      ready = x.ready;
      answer = x.answer;
      solves = x.solves;
      is = refl;
    },
    upper_seen P blindly c n k s b sim h x,
  )

  -- a disclosed run is a run
  pub as_run : (es : List Entry) (trace : List BlindEvent) (s : Plant) → DisclosedRun c n es trace s → Run c n es s
  as_run [] trace s run = run.1
  as_run (e ∷ older) trace s run = (run.0, as_run older run.1 run.0 run.2, run.3, run.4)

  -- the blind plant has said what was heard, and is in a state that is alike
  pub record Says (trace : List BlindEvent) (hs : List Heard) (s : Full) : Type 0 where
    pub state : Blank P
    pub sim : Sim P blindly n s state
    pub says : BlindSays c n trace hs state
    pub accepts : BlindAccepts c n trace hs state

  module _ (older : List Entry) (earlier : List BlindEvent) (before : Plant) (said : Says earlier (heard c n (deeds_of c n older)) before) (sound : Sound n before) where
    abbrev After : List BlindEvent → Happened → Type 0
    After trace h = Says trace (heard c n (h.deeds ++ deeds_of c n older)) h.state

    seen : (x : BlindEvent) (trace : List BlindEvent) (h : Happened) (h' : BlindHappened) → is_accepted h.answer ≡ true → trace ≡ x ∷ earlier → BlindHappens c n said.state x h' → Happen P blindly c n h h' → After trace h
    seen x trace h h' ok is happens happen = record {
      state = h'.state;
      sim = happen.sim;
      says = subst (λ (l : List BlindEvent). BlindSays c n l (heard c n (h.deeds ++ deeds_of c n older)) h'.state) (sym is) (
        said.state,
        heard c n (deeds_of c n older),
        h',
        said.says,
        happens,
        refl,
        heard_append P blindly c n h.deeds (deeds_of c n older) ∙ ap (λ (l : List Heard). heard c n (deeds_of c n older) ++ l) happen.heard',
      );
      accepts = subst (λ (l : List BlindEvent). BlindAccepts c n l (heard c n (h.deeds ++ deeds_of c n older)) h'.state) (sym is) (
        said.state,
        heard c n (deeds_of c n older),
        h',
        said.accepts,
        happens,
        sym happen.accepted ∙ ok,
        refl,
        heard_append P blindly c n h.deeds (deeds_of c n older) ∙ ap (λ (l : List Heard). heard c n (deeds_of c n older) ++ l) happen.heard',
      );
    }

    -- an event that is determined
    same_seen : (x : BlindEvent) (trace : List BlindEvent) (h k : Happened) (h' : BlindHappened) → is_accepted h.answer ≡ true → h ≡ k → trace ≡ x ∷ earlier → BlindHappens c n said.state x h' → Happen P blindly c n k h' → After trace h
    same_seen x trace h k h' ok same is happens happen = seen x trace h h' ok is happens (subst (λ (g : Happened). Happen P blindly c n g h') (sym same) happen)

    refused_not : {X : Type 0} (o : Bool) → o ≡ false → o ≡ true → X
    refused_not true e f = cc
    refused_not false e f = cc

    -- a load is not heard
    load_seen : (d : As) (g : Rows) (h : Happened) → h ≡ load c n d g before → is_accepted h.answer ≡ true → After earlier h
    load_seen d g h is ok = subst (After earlier) (sym is) (go (is_element n d) (is_full (before.current d).number (before.elements d).pending.rows) (ap (λ (z : Happened). is_accepted z.answer) (sym is) ∙ ok))
      where
        go : (t u : Bool) → is_accepted (cond t (cond u (refused c n GenerationsFull before) (load_new c n d g before)) (refused c n NoSuchPeer before)).answer ≡ true →
            After earlier (cond t (cond u (refused c n GenerationsFull before) (load_new c n d g before)) (refused c n NoSuchPeer before))
        go true true e = let no : false ≡ true = e in cc
        go false u e = let no : false ≡ true = e in cc
        go true false e = record {
          state = said.state;
          sim = record { clock = said.sim.clock; elements = said.sim.elements; parent = said.sim.parent; current = λ d'. refl; sessions = said.sim.sessions; queues = said.sim.queues; accesses = said.sim.accesses };
          says = subst (λ (l : List Heard). BlindSays c n earlier l said.state) (sym (nil_right (heard c n (deeds_of c n older)))) said.says;
          accepts = subst (λ (l : List Heard). BlindAccepts c n earlier l said.state) (sym (nil_right (heard c n (deeds_of c n older)))) said.accepts;
        }

    solve_seen : (d : As) (k : ℕ) (h : Happened) (trace : List BlindEvent) (rows : List BorderRow) → SolveHappens c n d k before h → is_accepted h.answer ≡ true →
        Discloses c n before (event.Solve d k) rows → trace ≡ blind.Solve d k rows ∷ earlier → After trace h
    solve_seen d k h trace rows (inl none) ok disclosed is = refused_not (is_accepted h.answer) (ap (λ (g : Happened). is_accepted g.answer) none.1) ok
    solve_seen d k h trace rows (inr (inl none)) ok disclosed is = refused_not (is_accepted h.answer) (ap (λ (g : Happened). is_accepted g.answer) none.2) ok
    solve_seen d k h trace rows (inr (inr (inl solves))) ok disclosed is =
        let x = solves.1 in
        let r = solved d k before said.state said.sim sound rows h x (is_client x.held.item.class) refl
        (elim disclosed [ inl upper ↦ refused_not (same_as d parent_as) x.upper upper.0 | inr rest ↦ rest.1 x.held x.down x.is_held x.ready ]) in
        seen (blind.Solve d k rows) trace h r.0 ok is (inr (inr (inl (solves.0, r.1)))) r.2
    solve_seen d k h trace rows (inr (inr (inr solves))) ok disclosed is =
        let r = upper_solved k before said.state said.sim h solves.2 in
        seen (blind.Solve d k rows) trace h r.0 ok is (inr (inr (inr (solves.0, solves.1, r.1)))) r.2

    happens_seen : (e : Event) (h : Happened) (trace : List BlindEvent) (rows : List BorderRow) → Happens c n before e h → is_accepted h.answer ≡ true → Discloses c n before e rows →
        trace ≡ with_event (blind_of e rows) earlier → After trace h
    happens_seen (event.Load d g) h trace rows is ok disclosed trace' = subst (λ (l : List BlindEvent). After l h) (sym trace') (load_seen d g h is ok)
    happens_seen (event.Open i holder) h trace rows is ok disclosed trace' = same_seen (blind.Open i holder) trace h (events.open_peer Pin Segment c n open_of i holder before) (events.open_peer P P c n (λ u. []) i holder said.state) ok is trace' refl (open_happens P blindly c n i holder before said.state said.sim)
    happens_seen (event.Shut i) h trace rows is ok disclosed trace' = same_seen (blind.Shut i) trace h (events.shut Pin Segment c n open_of i before) (events.shut P P c n (λ u. []) i said.state) ok is trace' refl (shut_happens P blindly c n i before said.state said.sim)
    happens_seen (event.Feed i bytes) h trace rows is ok disclosed trace' = same_seen (blind.Feed i bytes) trace h (events.feed Pin Segment c n open_of i bytes before) (events.feed P P c n (λ u. []) i bytes said.state) ok is trace' refl (feed_happens P blindly c n i bytes before said.state said.sim)
    happens_seen (event.Take i) h trace rows is ok disclosed trace' = same_seen (blind.Take i) trace h (events.take Pin Segment c n open_of i before) (events.take P P c n (λ u. []) i said.state) ok is trace' refl (take_happens P blindly c n i before said.state said.sim)
    happens_seen (event.Carry a b) h trace rows is ok disclosed trace' = same_seen (blind.Carry a b) trace h (events.carry Pin Segment c n open_of a b before) (events.carry P P c n (λ u. []) a b said.state) ok is trace' refl (carry_happens P blindly c n a b before said.state said.sim)
    happens_seen (event.Break a b) h trace rows is ok disclosed trace' = same_seen (blind.Break a b) trace h (events.break Pin Segment c n open_of a b before) (events.break P P c n (λ u. []) a b said.state) ok is trace' refl (break_happens P blindly c n a b before said.state said.sim)
    happens_seen (event.Tick t) h trace rows is ok disclosed trace' = same_seen (blind.Tick t) trace h (events.tick Pin Segment c n open_of t.0 before) (events.tick P P c n (λ u. []) t.0 said.state) ok is trace' refl (tick_happens P blindly c n t.0 before said.state said.sim)
    happens_seen (event.Drain i holder) h trace rows is ok disclosed trace' = same_seen (blind.Drain i holder) trace h (events.drain Pin Segment c n open_of i holder before) (events.drain P P c n (λ u. []) i holder said.state) ok is trace' refl (drain_happens P blindly c n i holder before said.state said.sim)
    happens_seen (event.Solve d k) h trace rows is ok disclosed trace' = solve_seen d k h trace rows is ok disclosed trace'

    step_seen : (e : Event) (h : Happened) (trace : List BlindEvent) (t : Bool) → is_accepted h.answer ≡ t → Steps c n before e h →
        cond t ((rows : List BorderRow) × Discloses c n before e rows × (trace ≡ with_event (blind_of e rows) earlier)) (trace ≡ earlier) → After trace h
    step_seen e h trace false none steps is =
        let same = refused_same c n before e h steps none in
        record {
          state = said.state;
          sim = subst (λ (z : Full). Sim P blindly n z said.state) (sym same.state) said.sim;
          says = subst (λ (l : List BlindEvent). BlindSays c n l (heard c n (h.deeds ++ deeds_of c n older)) said.state) (sym is)
              (subst (λ (ds : _). BlindSays c n earlier (heard c n (ds ++ deeds_of c n older)) said.state) (sym same.deeds) said.says);
          accepts = subst (λ (l : List BlindEvent). BlindAccepts c n l (heard c n (h.deeds ++ deeds_of c n older)) said.state) (sym is)
              (subst (λ (ds : _). BlindAccepts c n earlier (heard c n (ds ++ deeds_of c n older)) said.state) (sym same.deeds) said.accepts);
        }
    step_seen e h trace true ok (inl happens) shown = happens_seen e h trace shown.0 happens ok shown.1 shown.2
    step_seen e h trace true ok (inr none) shown = refused_not (is_accepted h.answer) (ap (λ (g : Happened). is_accepted g.answer) none.1) ok

  pub says : (es : List Entry) (trace : List BlindEvent) (s : Plant) → DisclosedRun c n es trace s → Says trace (heard c n (deeds_of c n es)) s
  says [] trace s run = record {
    state = (blind_opened c n).state;
    sim = subst (λ (z : Full). Sim P blindly n z (blind_opened c n).state) (sym run.1) (opened_both P blindly c n).sim;
    says = subst (λ (l : List BlindEvent). BlindSays c n l (heard c n (opened c n).deeds) (blind_opened c n).state) (sym run.0) ((opened_both P blindly c n).heard', refl);
    accepts = subst (λ (l : List BlindEvent). BlindAccepts c n l (heard c n (opened c n).deeds) (blind_opened c n).state) (sym run.0) ((opened_both P blindly c n).heard', refl);
  }
  says (e ∷ older) trace s run =
      step_seen older run.1 run.0 (says older run.1 run.0 run.2) (run_sound c n older run.0 (as_run older run.1 run.0 run.2)) e.event
      (record { answer = e.answer; state = s; deeds = e.deeds }) trace (is_accepted e.answer) refl run.4 run.5

pub says_as_blind : SaysAsBlind
says_as_blind c n es trace s run = let r = says c n es trace s run in (r.state, r.says)

pub accepts_as_blind : AcceptsAsBlind
accepts_as_blind c n es trace s run = let r = says c n es trace s run in (r.state, r.accepts)
