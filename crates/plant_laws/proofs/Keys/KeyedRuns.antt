-- In every state of a run the keys of an element are those of its last solve that are live, and each message that an element took
-- met it as it stood.
use Rattle.std.proofs.Common.{◌≡◌, ◌⊎◌, ◌<◌, ◌≤◌, ℕ, ◌+◌, Bool, true, false, cond, nat_lt, List, [], ◌∷◌, ◌++◌, filter, sym, ◌∙◌, ap, subst, inl, inr, refl, arith}
use Rattle.std.proofs.lemmas.Bool.{eq-eqb}
use Rattle.plant_model.specs.Types.{As, Peer, Message, Issued, Best, Branch, NetworkParts}
use Rattle.te_links.specs.Rows.{Rows}
use Rattle.disclosure.specs.Shown.{open_of}
use Rattle.path_keys.specs.Keys.{Keys, is_live, issue_of}
use Rattle.path_keys.proofs.KeyLemmas.{live_if}
use Rattle.plant_model.specs.declared.outcome.Refused.TheVariants.{GenerationsFull, NoSuchPeer}
use Rattle.plant_model.specs.declared.event.Event.{Event}
use Rattle.plant_model.specs.declared.event.Event.TheVariants as event
use Rattle.plant_model.specs.declared.output.Output.{Output}
use Rattle.plant_text.specs.Names.{same_as, parent_as}
use Rattle.plant_model.specs.Wire.{Codec}
use Rattle.plant_model.specs.Element.{Element, ElementSettings, Row, Taken, is_client}
use Rattle.plant_model.specs.Taking.{take, answered}
use Rattle.plant_model.specs.Solving.{commit, client_reply, closed_reply, issued_all, job_found}
use Rattle.plant_model.specs.Parent as parent
use Rattle.plant_text.specs.Settings.{Adjacency, adjacencies, class_of, life, is_element}
use Rattle.plant_model.specs.Settings.{place}
use Rattle.plant_model.specs.State.{State, Loads, Pops, Takes, Solves}
use Rattle.plant_model.specs.Deeds.{Going, with_element, with_parent, puts, begin_adjacency, tick_outside, tick_adjacencies}
use Rattle.plant_model.specs.Events as events
use Rattle.plant_model.specs.Plant.{Pin, Segment, first_pin, Plant, Happened, Entry, Run, Steps, Happens, opened, deeds_of, load, load_new, refused, is_full, ElementSolves, ParentSolves}
use Rattle.plant_laws.specs.Transcript.{Transcript, Within}
use Rattle.plant_laws.specs.Keys.{clock_at, last_keys}
use Rattle.plant_laws.proofs.Runs.Decompose.{nil_right}
use Rattle.plant_laws.proofs.Runs.Queues.{same_as_is}
use Rattle.plant_laws.proofs.Keys.Keyed.{plain_clock, plain_keys, plain_nil, plain_none, earlier_take, TakesNone, Gives, Kind, going, open_calm, shut_calm, feed_calm, break_calm, drain_calm, take_kind, carry_kind}
use Rattle.plant_laws.proofs.Runs.Calm.{Plain, Calm, still, begin_adjacency_on, tick_outside_on, tick_adjacencies_on, puts_elements, puts_clock}
use Rattle.plant_laws.proofs.Runs.Lists.{Stands}

not_both : {X : Type 0} (t : Bool) → t ≡ true → t ≡ false → X
not_both true e f = cc
not_both false e f = cc

pub filtered_in : {X : Type 0} (f : X → Bool) (xs : List X) (x : X) → Stands x (filter f xs) → Stands x xs
filtered_in f [] x stands = absurd stands
filtered_in f (y ∷ ys) x stands = go (f y) stands (filtered_in f ys x)
  where
    go : (b : Bool) → Stands x (cond b (y ∷ filter f ys) (filter f ys)) → (Stands x (filter f ys) → Stands x ys) → Stands x (y ∷ ys)
    go true (inl is) later = inl is
    go true (inr there) later = inr (later there)
    go false there later = inr (later there)

pub in_filtered : {X : Type 0} (f : X → Bool) (xs : List X) (x : X) → Stands x xs → f x ≡ true → Stands x (filter f xs)
in_filtered f [] x stands ok = absurd stands
in_filtered f (y ∷ ys) x stands ok = go (f y) refl stands (in_filtered f ys x)
  where
    go : (b : Bool) → f y ≡ b → Stands x (y ∷ ys) → (Stands x ys → f x ≡ true → Stands x (filter f ys)) → Stands x (cond b (y ∷ filter f ys) (filter f ys))
    go true e (inl is) later = inl is
    go true e (inr there) later = inr (later there ok)
    go false e (inl is) later = not_both (f y) (ap f (sym is) ∙ ok) e
    go false e (inr there) later = later there ok

pub later_least : (now t : ℕ) → now ≤ events.later now t
later_least now t = go (nat_lt now t) refl
  where
    go : (b : Bool) → nat_lt now t ≡ b → now ≤ cond b t now
    go true e = (let less : now < t = grind arith in omega (arith, less))
    go false e = omega arith

module _ (c : Codec) (n : NetworkParts) where
  abbrev Core : Type 0
  Core = State Pin Segment

  pub issued_life : (now : ℕ) (stands : Best → Segment) (bs : List Best) (keys : Keys Segment) → (issued_all now stands bs keys).life ≡ keys.life
  issued_life now stands [] keys = refl
  issued_life now stands (b ∷ bs) keys = issued_life now stands bs (issue_of keys now (stands b))

  taken_pick : (L : ℕ) (b : Bool) (t u : Taken Pin Segment) → t.element.keys.life ≡ L → u.element.keys.life ≡ L → (cond b t u).element.keys.life ≡ L
  taken_pick L true t u x y = x
  taken_pick L false t u x y = y

  closed_life : (e : ElementSettings) (h : Row Pin) (down : List Branch) (now : ℕ) (stands : Best → Segment) (k : Element Pin Segment) (best : List Best) → (closed_reply c e h down now stands k best).element.keys.life ≡ k.keys.life
  closed_life e h down now stands k [] = refl
  closed_life e h down now stands k (b ∷ bs) = taken_pick k.keys.life _ _ _ refl (issued_life now stands (b ∷ bs) k.keys)

  commit_life : (e : ElementSettings) (h : Row Pin) (down : List Branch) (now : ℕ) (stands : Best → Segment) (sk tk : Bool) (best : List Best) (k : Element Pin Segment) →
      (commit c e h down now stands (job_found sk tk best) k).element.keys.life ≡ k.keys.life
  commit_life e h down now stands sk tk best k =
      taken_pick k.keys.life (is_client h.1.item.class) (answered h (client_reply c h down sk tk best) k) (closed_reply c e h down now stands k best) refl (closed_life e h down now stands k best)

  -- the clock, and the keys of an element that are live
  pub record KeysAre (ds : Transcript) (s : Core) : Type 0 where
    pub clock : clock_at ds ≡ s.clock
    pub life' : (d : As) → (s.elements d).keys.life ≡ life n d
    pub kept : (d : As) → same_as d parent_as ≡ false → (x : Issued Segment) → Stands x (s.elements d).keys.issued → Stands x (last_keys d ds)
    pub all : (d : As) → same_as d parent_as ≡ false → (x : Issued Segment) → Stands x (last_keys d ds) → s.clock < x.at.0 + life n d → Stands x (s.elements d).keys.issued

  -- the same clock and keys, by the transcript and in the state
  same_keys : (ds es : Transcript) (s t : Core) → clock_at es ≡ clock_at ds → ((d : As) → last_keys d es ≡ last_keys d ds) → t.clock ≡ s.clock → ((d : As) → (t.elements d).keys ≡ (s.elements d).keys) → KeysAre ds s → KeysAre es t
  same_keys ds es s t clock last clock' keys h = record {
    clock = clock ∙ h.clock ∙ sym clock';
    life' = λ d. ap (λ (k : Keys Segment). k.life) (keys d) ∙ h.life' d;
    kept = λ d upper x stands.
        subst (λ (l : List (Issued Segment)). Stands x l) (sym (last d)) (h.kept d upper x (subst (λ (k : Keys Segment). Stands x k.issued) (keys d) stands));
    all = λ d upper x stands live.
        subst (λ (k : Keys Segment). Stands x k.issued) (sym (keys d))
        (h.all d upper x (subst (λ (l : List (Issued Segment)). Stands x l) (last d) stands) (subst (λ (now : ℕ). now < x.at.0 + life n d) clock' live));
  }

  calm_keys : (ds : Transcript) (s : Core) (g : Going Pin Segment) → Calm c n s [] g → KeysAre ds s → KeysAre (g.deeds ++ ds) g.state
  calm_keys ds s g calm h =
      let plain = plain_nil g.deeds calm.more calm.is calm.plain in
      same_keys ds (g.deeds ++ ds) s g.state (plain_clock g.deeds ds plain) (λ d. plain_keys d g.deeds ds plain) calm.clock calm.keys h

  pub before_plain : (before : Transcript) → (before ≡ []) ⊎ ((a : As) × (b : As) × (before ≡ Pops a b ∷ [])) → Plain before
  before_plain before (inl is) = subst Plain (sym is) tt
  before_plain before (inr is) = subst Plain (sym is.2) (refl, tt)

  give_keys : (ds : Transcript) (s : Core) (g : Going Pin Segment) → Gives c n s g → KeysAre ds s → KeysAre (g.deeds ++ ds) g.state
  give_keys ds s g gives h =
      let plain = before_plain gives.before gives.first in
      subst (λ (es : Transcript). KeysAre (es ++ ds) g.state) (sym gives.deeds)
      (same_keys ds (Takes gives.at gives.from gives.message gives.outputs ∷ gives.before ++ ds) s g.state (plain_clock gives.before ds plain) (λ d. plain_keys d gives.before ds plain) gives.clock gives.keys h)

  kind_keys : (ds : Transcript) (s : Core) (g : Going Pin Segment) → Kind c n s g → KeysAre ds s → KeysAre (g.deeds ++ ds) g.state
  kind_keys ds s g (inl calm) h = calm_keys ds s g calm h
  kind_keys ds s g (inr gives) h = give_keys ds s g gives h

  -- a tick
  pub ticked_calm : (t : ℕ) (s : Core) →
      (let now = events.later s.clock t in
      Calm c n (record s { clock = now }) [] (tick_adjacencies Pin Segment c n open_of (adjacencies n) (record { 0 = now }) (tick_outside Pin Segment c n open_of 0 n.peers (record { 0 = now }) (record { state = record s { clock = now }; deeds = [] }))))
  ticked_calm t s =
      let now = events.later s.clock t in
      let u : Core = record s { clock = now } in
      let g : Going Pin Segment = record { state = u; deeds = [] } in
      tick_adjacencies_on c n u [] (adjacencies n) (record { 0 = now }) (tick_outside Pin Segment c n open_of 0 n.peers (record { 0 = now }) g)
      (tick_outside_on c n u [] 0 n.peers (record { 0 = now }) g (still c n u []))

  tick_keys : (t : ℕ) (ds : Transcript) (s : Core) → KeysAre ds s → KeysAre ((events.tick Pin Segment c n open_of t s).deeds ++ ds) (events.tick Pin Segment c n open_of t s).state
  tick_keys t ds s h =
      let now = events.later s.clock t in
      let u : Core = record s { clock = now } in
      let g = tick_adjacencies Pin Segment c n open_of (adjacencies n) (record { 0 = now }) (tick_outside Pin Segment c n open_of 0 n.peers (record { 0 = now }) (record { state = u; deeds = [] })) in
      let calm = ticked_calm t s in
      let plain = plain_nil g.deeds calm.more calm.is calm.plain in
      let low = later_least s.clock t in
      record {
        clock = sym calm.clock;
        life' = λ d. ap (λ (k : Keys Segment). k.life) (calm.keys d) ∙ h.life' d;
        kept = λ d upper x stands.
            subst (λ (l : List (Issued Segment)). Stands x l) (sym (plain_keys d g.deeds ds plain))
            (h.kept d upper x (subst (λ (k : Keys Segment). Stands x k.issued) (calm.keys d) (filtered_in (is_live (g.state.elements d).keys.life now) (g.state.elements d).keys.issued x stands)));
        all = λ d upper x stands live.
            (let at_now : now < x.at.0 + life n d = subst (λ (z : ℕ). z < x.at.0 + life n d) calm.clock live in
            in_filtered (is_live (g.state.elements d).keys.life now) (g.state.elements d).keys.issued x
            (subst (λ (k : Keys Segment). Stands x k.issued) (sym (calm.keys d)) (h.all d upper x (subst (λ (l : List (Issued Segment)). Stands x l) (plain_keys d g.deeds ds plain) stands) (omega (arith, at_now, low))))
            (live_if (g.state.elements d).keys.life now x
            (subst (λ (z : ℕ). now < x.at.0 + z) (sym (ap (λ (k : Keys Segment). k.life) (calm.keys d) ∙ h.life' d)) at_now)));
      }

  -- a solve
  solve_keys : (ds : Transcript) (s : Plant) (d : As) (k : ℕ) (h : Happened) → KeysAre ds s → ElementSolves c n d k s h → KeysAre (h.deeds ++ ds) h.state
  solve_keys ds s d k h held x =
      let r = commit c (place n d) (k, x.held) x.down s.clock (λ b. b.segment) (job_found x.rows.source_known x.rows.target_known x.rows.best) (s.elements d) in
      let v = with_element Pin Segment c n open_of d r.element s in
      let life-r : r.element.keys.life ≡ (s.elements d).keys.life = commit_life (place n d) (k, x.held) x.down s.clock (λ b. b.segment) x.rows.source_known x.rows.target_known x.rows.best (s.elements d) in
      subst (λ (h' : Happened). KeysAre (h'.deeds ++ ds) h'.state) (sym x.is)
      (same_keys (Solves d k r.outputs r.element.keys.issued ∷ ds) (Solves d k r.outputs r.element.keys.issued ∷ ds) v (puts Pin Segment c n open_of d r.outputs v) refl (λ e. refl) (puts_clock c n d r.outputs v)
      (λ e. ap (λ (f : As → Element Pin Segment). (f e).keys) (puts_elements c n d r.outputs v))
      (record {
        clock = held.clock;
        life' = λ e. lives r.element e (same_as d e) refl life-r;
        kept = λ e upper y. kept r.element e y upper (same_as d e);
        all = λ e upper y. all r.element e y upper (same_as d e);
      }))
    where
      lives : (q : Element Pin Segment) (e : As) (b : Bool) → same_as d e ≡ b → q.keys.life ≡ (s.elements d).keys.life → (cond b q (s.elements e)).keys.life ≡ life n e
      lives q e true is same = same ∙ held.life' d ∙ ap (λ (z : As). life n z) (same_as_is d e is)
      lives q e false is same = held.life' e

      kept : (q : Element Pin Segment) (e : As) (y : Issued Segment) → same_as e parent_as ≡ false → (b : Bool) → Stands y (cond b q (s.elements e)).keys.issued → Stands y (cond b q.keys.issued (last_keys e ds))
      kept q e y upper true stands = stands
      kept q e y upper false stands = held.kept e upper y stands

      all : (q : Element Pin Segment) (e : As) (y : Issued Segment) → same_as e parent_as ≡ false → (b : Bool) → Stands y (cond b q.keys.issued (last_keys e ds)) → s.clock < y.at.0 + life n e → Stands y (cond b q (s.elements e)).keys.issued
      all q e y upper true stands live = stands
      all q e y upper false stands live = held.all e upper y stands live

  upper_keys : (ds : Transcript) (s : Plant) (k : ℕ) (h : Happened) → KeysAre ds s → ParentSolves c n k s h → KeysAre (h.deeds ++ ds) h.state
  upper_keys ds s k h held x =
      let r = parent.commit c (k, x.held) x.answer s.parent in
      let v = with_parent Pin Segment c n open_of r.parent s in
      subst (λ (h' : Happened). KeysAre (h'.deeds ++ ds) h'.state) (sym x.is)
      (record {
        clock = held.clock ∙ sym (puts_clock c n parent_as r.outputs v);
        life' = λ e. ap (λ (f : As → Element Pin Segment). (f e).keys.life) (puts_elements c n parent_as r.outputs v) ∙ held.life' e;
        kept = λ e upper y stands.
            subst (λ (l : List (Issued Segment)). Stands y l) (sym (last e upper (same_as parent_as e) refl))
            (held.kept e upper y (subst (λ (f : As → Element Pin Segment). Stands y (f e).keys.issued) (puts_elements c n parent_as r.outputs v) stands));
        all = λ e upper y stands live.
            subst (λ (f : As → Element Pin Segment). Stands y (f e).keys.issued) (sym (puts_elements c n parent_as r.outputs v))
            (held.all e upper y (subst (λ (l : List (Issued Segment)). Stands y l) (last e upper (same_as parent_as e) refl) stands) (subst (λ (z : ℕ). z < y.at.0 + life n e) (puts_clock c n parent_as r.outputs v) live));
      })
    where
      last : (e : As) → same_as e parent_as ≡ false → (b : Bool) → same_as parent_as e ≡ b → cond b [] (last_keys e ds) ≡ last_keys e ds
      last e upper true is = not_both (same_as e parent_as) (eq-eqb e.0 parent_as.0 (ap (λ (z : As). z.0) (sym (same_as_is parent_as e is)))) upper
      last e upper false is = refl

  load_keys : (ds : Transcript) (s : Plant) (d : As) (g : Rows) (h : Happened) → h ≡ load c n d g s → KeysAre ds s → KeysAre (h.deeds ++ ds) h.state
  load_keys ds s d g h is held = subst (λ (h' : Happened). KeysAre (h'.deeds ++ ds) h'.state) (sym is) (go (is_element n d) (is_full (s.current d).number (s.elements d).pending.rows))
    where
      go : (t u : Bool) → (let h' = cond t (cond u (refused c n GenerationsFull s) (load_new c n d g s)) (refused c n NoSuchPeer s) in KeysAre (h'.deeds ++ ds) h'.state)
      go true true = held
      go false u = held
      go true false = same_keys ds (Loads d g ∷ ds) s (load_new c n d g s).state refl (λ e. refl) refl (λ e. refl) held

  by_kind : (ds : Transcript) (s : Plant) (h k : Happened) → h ≡ k → Kind c n s (going c n k) → KeysAre ds s → KeysAre (h.deeds ++ ds) h.state
  by_kind ds s h k is kind held = subst (λ (h' : Happened). KeysAre (h'.deeds ++ ds) h'.state) (sym is) (kind_keys ds s (going c n k) kind held)

  happens_keys : (ds : Transcript) (s : Plant) (e : Event) (h : Happened) → Happens c n s e h → KeysAre ds s → KeysAre (h.deeds ++ ds) h.state
  happens_keys ds s (event.Load d g) h is held = load_keys ds s d g h is held
  happens_keys ds s (event.Open i holder) h is held = by_kind ds s h _ is (inl (open_calm c n i holder s)) held
  happens_keys ds s (event.Shut i) h is held = by_kind ds s h _ is (inl (shut_calm c n i s)) held
  happens_keys ds s (event.Feed i bytes) h is held = by_kind ds s h _ is (inl (feed_calm c n i bytes s)) held
  happens_keys ds s (event.Take i) h is held = by_kind ds s h _ is (take_kind c n i s) held
  happens_keys ds s (event.Carry a b) h is held = by_kind ds s h _ is (carry_kind c n a b s) held
  happens_keys ds s (event.Break a b) h is held = by_kind ds s h _ is (inl (break_calm c n a b s)) held
  happens_keys ds s (event.Tick t) h is held = subst (λ (h' : Happened). KeysAre (h'.deeds ++ ds) h'.state) (sym is) (tick_keys t.0 ds s held)
  happens_keys ds s (event.Drain i holder) h is held = by_kind ds s h _ is (inl (drain_calm c n i holder s)) held
  happens_keys ds s (event.Solve d k) h (inl none) held = subst (λ (h' : Happened). KeysAre (h'.deeds ++ ds) h'.state) (sym none.1) held
  happens_keys ds s (event.Solve d k) h (inr (inl none)) held = subst (λ (h' : Happened). KeysAre (h'.deeds ++ ds) h'.state) (sym none.2) held
  happens_keys ds s (event.Solve d k) h (inr (inr (inl solves))) held = solve_keys ds s d k h held solves.1
  happens_keys ds s (event.Solve d k) h (inr (inr (inr solves))) held = upper_keys ds s k h held solves.2

  opening_calm : (xs : List Adjacency) (s : Core) (g : Going Pin Segment) → Calm c n s [] g → Calm c n s [] (events.begin_adjacencies Pin Segment c n open_of xs g)
  opening_calm [] s g calm = calm
  opening_calm (x ∷ xs) s g calm = opening_calm xs s (begin_adjacency Pin Segment c n open_of 0 x g) (begin_adjacency_on c n s [] 0 x g calm)

  pub opened_calm : Calm c n (events.bare Pin Segment c n open_of first_pin) [] (opened c n)
  opened_calm = let b = events.bare Pin Segment c n open_of first_pin in opening_calm (adjacencies n) b (record { state = b; deeds = [] }) (still c n b [])

  pub run_keys : (es : List Entry) (s : Plant) → Run c n es s → KeysAre (deeds_of c n es) s
  run_keys [] s is =
      subst (KeysAre (opened c n).deeds) (sym is)
      (subst (λ (ds : Transcript). KeysAre ds (opened c n).state) (nil_right (opened c n).deeds)
      (calm_keys [] (events.bare Pin Segment c n open_of first_pin) (opened c n) opened_calm
      (record { clock = refl; life' = λ d. refl; kept = λ d upper x stands. absurd stands; all = λ d upper x stands live. absurd stands })))
  run_keys (e ∷ older) s run =
      let held = run_keys older run.0 run.1 in
      elim run.3 [
        | inl is ↦ happens_keys (deeds_of c n older) run.0 e.event (record { answer = e.answer; state = s; deeds = e.deeds }) is held
        | inr none ↦ subst (λ (h' : Happened). KeysAre (h'.deeds ++ deeds_of c n older) h'.state) (sym none.1) held
      ]

  -- where a message was taken
  pub record TakenFrom (d : As) (p : Peer) (m : Message) (os : List Output) (older : Transcript) : Type 0 where
    pub entries : List Entry
    pub state : Plant
    pub run : Run c n entries state
    pub before : (older ≡ deeds_of c n entries) ⊎ ((a : As) × (b : As) × (older ≡ Pops a b ∷ deeds_of c n entries))
    pub outputs : os ≡ (take c open_of (place n d) (state.current d) p (class_of n p) state.clock m (state.elements d)).outputs

  none_of : (s : Plant) (h k : Happened) → h ≡ k → Kind c n s (going c n k) → TakesNone h.deeds ⊎ Gives c n s (going c n h)
  none_of s h k is (inl calm) = inl (subst (λ (h' : Happened). TakesNone h'.deeds) (sym is) (plain_none k.deeds (plain_nil k.deeds calm.more calm.is calm.plain)))
  none_of s h k is (inr gives) = inr (subst (λ (h' : Happened). Gives c n s (going c n h')) (sym is) gives)

  happens_none : (s : Plant) (e : Event) (h : Happened) → Happens c n s e h → TakesNone h.deeds ⊎ Gives c n s (going c n h)
  happens_none s (event.Load d g) h is = inl (subst (λ (h' : Happened). TakesNone h'.deeds) (sym is) (go (is_element n d) (is_full (s.current d).number (s.elements d).pending.rows)))
    where
      go : (t u : Bool) → TakesNone (cond t (cond u (refused c n GenerationsFull s) (load_new c n d g s)) (refused c n NoSuchPeer s)).deeds
      go true true = tt
      go false u = tt
      go true false = (refl, tt)
  happens_none s (event.Open i holder) h is = none_of s h _ is (inl (open_calm c n i holder s))
  happens_none s (event.Shut i) h is = none_of s h _ is (inl (shut_calm c n i s))
  happens_none s (event.Feed i bytes) h is = none_of s h _ is (inl (feed_calm c n i bytes s))
  happens_none s (event.Take i) h is = none_of s h _ is (take_kind c n i s)
  happens_none s (event.Carry a b) h is = none_of s h _ is (carry_kind c n a b s)
  happens_none s (event.Break a b) h is = none_of s h _ is (inl (break_calm c n a b s))
  happens_none s (event.Tick t) h is =
      let calm = ticked_calm t.0 s in
      inl (subst (λ (h' : Happened). TakesNone h'.deeds) (sym is) (refl, plain_none _ (plain_nil _ calm.more calm.is calm.plain)))
  happens_none s (event.Drain i holder) h is = none_of s h _ is (inl (drain_calm c n i holder s))
  happens_none s (event.Solve d k) h (inl none) = inl (subst (λ (h' : Happened). TakesNone h'.deeds) (sym none.1) tt)
  happens_none s (event.Solve d k) h (inr (inl none)) = inl (subst (λ (h' : Happened). TakesNone h'.deeds) (sym none.2) tt)
  happens_none s (event.Solve d k) h (inr (inr (inl solves))) = inl (subst (λ (h' : Happened). TakesNone h'.deeds) (sym solves.1.is) (refl, tt))
  happens_none s (event.Solve d k) h (inr (inr (inr solves))) = inl (subst (λ (h' : Happened). TakesNone h'.deeds) (sym solves.2.is) (refl, tt))

  -- the parts of a deed
  abbrev at_of : Transcript → As → As
  at_of [] d = d
  at_of (Takes at from m os ∷ es) d = at
  at_of (e ∷ es) d = d

  abbrev from_of : Transcript → Peer → Peer
  from_of [] p = p
  from_of (Takes at from m os ∷ es) p = from
  from_of (e ∷ es) p = p

  abbrev message_of : Transcript → Message → Message
  message_of [] m = m
  message_of (Takes at from m' os ∷ es) m = m'
  message_of (e ∷ es) m = m

  abbrev outputs_of : Transcript → List Output
  outputs_of [] = []
  outputs_of (Takes at from m os ∷ es) = os
  outputs_of (e ∷ es) = []

  abbrev older_of : Transcript → Transcript
  older_of [] = []
  older_of (e ∷ es) = es

  given_from : (es : List Entry) (s : Plant) → Run c n es s → (g : Going Pin Segment) → Gives c n s g → (d : As) (p : Peer) (m : Message) (os : List Output) (older : Transcript) → same_as d parent_as ≡ false →
      Within (Takes d p m os ∷ older) (g.deeds ++ deeds_of c n es) → TakenFrom d p m os older ⊎ Within (Takes d p m os ∷ older) (deeds_of c n es)
  given_from es s run g gives d p m os older upper within =
      go (subst (λ (l : Transcript). Within (Takes d p m os ∷ older) (l ++ deeds_of c n es)) gives.deeds within)
    where
      before : (rest : Transcript) → (rest ≡ []) ⊎ ((a : As) × (b : As) × (rest ≡ Pops a b ∷ [])) → (rest ++ deeds_of c n es ≡ deeds_of c n es) ⊎ ((a : As) × (b : As) × (rest ++ deeds_of c n es ≡ Pops a b ∷ deeds_of c n es))
      before rest (inl is) = inl (ap (λ (l : Transcript). l ++ deeds_of c n es) is)
      before rest (inr is) = inr (is.0, is.1, ap (λ (l : Transcript). l ++ deeds_of c n es) is.2)

      none : (rest : Transcript) → (rest ≡ []) ⊎ ((a : As) × (b : As) × (rest ≡ Pops a b ∷ [])) → TakesNone rest
      none rest (inl is) = subst TakesNone (sym is) tt
      none rest (inr is) = subst TakesNone (sym is.2) (refl, tt)

      go : Within (Takes d p m os ∷ older) (Takes gives.at gives.from gives.message gives.outputs ∷ gives.before ++ deeds_of c n es) → TakenFrom d p m os older ⊎ Within (Takes d p m os ∷ older) (deeds_of c n es)
      go (inr there) = inr (earlier_take gives.before (deeds_of c n es) d p m os older (none gives.before gives.first) there)
      go (inl is) =
          let at : d ≡ gives.at = ap (λ (l : Transcript). at_of l d) is in
          let from : p ≡ gives.from = ap (λ (l : Transcript). from_of l p) is in
          let message : m ≡ gives.message = ap (λ (l : Transcript). message_of l m) is in
          let made : As → Peer → Message → List Output = λ z q w. (take c open_of (place n z) (s.current z) q (class_of n q) s.clock w (s.elements z)).outputs in
          let rest : older ≡ gives.before ++ deeds_of c n es = ap older_of is in
          inl (record {
            entries = es;
            state = s;
            run = run;
            before = subst (λ (l : Transcript). (l ≡ deeds_of c n es) ⊎ ((a : As) × (b : As) × (l ≡ Pops a b ∷ deeds_of c n es))) (sym rest) (before gives.before gives.first);
            outputs = ap outputs_of is ∙ gives.is (ap (λ (z : As). same_as z parent_as) (sym at) ∙ upper)
                ∙ ap (λ (z : As). made z gives.from gives.message) (sym at) ∙ ap (λ (q : Peer). made d q gives.message) (sym from) ∙ ap (λ (w : Message). made d p w) (sym message);
          })

  pub taken_from : (es : List Entry) (s : Plant) → Run c n es s → (d : As) (p : Peer) (m : Message) (os : List Output) (older : Transcript) → same_as d parent_as ≡ false →
      Within (Takes d p m os ∷ older) (deeds_of c n es) → TakenFrom d p m os older
  taken_from [] s is d p m os older upper within =
      let calm = opened_calm in
      let none : (Takes d p m os ∷ older ≡ []) =
      earlier_take (opened c n).deeds [] d p m os older (plain_none (opened c n).deeds (plain_nil (opened c n).deeds calm.more calm.is calm.plain))
      (subst (λ (l : Transcript). Within (Takes d p m os ∷ older) l) (sym (nil_right (opened c n).deeds)) within) in
      cc
  taken_from (e ∷ es) s run d p m os older upper within =
      go (steps run.3) (λ there. taken_from es run.0 run.1 d p m os older upper there)
    where
      steps : Steps c n run.0 e.event (record { answer = e.answer; state = s; deeds = e.deeds }) → TakesNone e.deeds ⊎ Gives c n run.0 (record { state = s; deeds = e.deeds })
      steps (inl is) = happens_none run.0 e.event (record { answer = e.answer; state = s; deeds = e.deeds }) is
      steps (inr none) = inl (subst (λ (h' : Happened). TakesNone h'.deeds) (sym none.1) tt)

      go : TakesNone e.deeds ⊎ Gives c n run.0 (record { state = s; deeds = e.deeds }) → (Within (Takes d p m os ∷ older) (deeds_of c n es) → TakenFrom d p m os older) → TakenFrom d p m os older
      go (inl none) rec = rec (earlier_take e.deeds (deeds_of c n es) d p m os older none within)
      go (inr gives) rec = elim (given_from es run.0 run.1 (record { state = s; deeds = e.deeds }) gives d p m os older upper within) [ inl from ↦ from | inr there ↦ rec there ]
