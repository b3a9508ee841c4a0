-- Each event keeps links calm, so the links of every run are calm.
use Rattle.std.proofs.Common.{◌≡◌, ◌∙◌, ℕ, nat_eq, Bool, true, false, cond, ◌==◌, List, [], ◌∷◌, ◌++◌, Option, Some, None, is_some, refl, sym, ap, subst, inl, inr, arith}
use Rattle.std.specs.Map.{lookup}
use Rattle.std.proofs.lemmas.Bool.{cases_Bool}
use Rattle.plant_laws.specs.plant_model.Types.{As, Phase, State as Session, Held, NetworkParts, Outside, Inner}
use Rattle.pcep_messages.specs.Spelling.{IsWritten}
use Rattle.pcep_session.specs.declared.session.Input.TheVariants as input
use Rattle.pcep_session.specs.declared.state.Phase.TheVariants as phase
use Rattle.pcep_session.specs.Table.{new_state, turn_of}
use Rattle.pcep_session.specs.declared.actions.Own.TheVariants as own
use Rattle.disclosure.specs.Shown.{open_of}
use Rattle.plant_text.specs.Names.{same_as, same_link, parent_as}
use Rattle.plant_text.specs.Settings.{Adjacency, adjacency, adjacencies, has_adjacency, is_linked, is_element, peer_row}
use Rattle.plant_laws.specs.plant_model.declared.event.Event.{Event}
use Rattle.plant_laws.specs.plant_model.declared.event.Event.TheVariants as event
use Rattle.plant_laws.specs.plant_model.declared.outcome.Outcome.TheVariants.{Done}
use Rattle.plant_laws.specs.plant_model.declared.outcome.Refused.TheVariants.{NoSuchPeer}
use Rattle.plant_laws.specs.plant_model.declared.output.Output.{Output}
use Rattle.plant_laws.specs.plant_model.Wire.{Bytes, Codec}
use Rattle.plant_laws.specs.plant_model.Laws.{IsCodec, IsNetwork}
use Rattle.plant_laws.specs.plant_model.Names.{set_pair}
use Rattle.plant_laws.specs.plant_model.Element.{Way, way_to}
use Rattle.plant_laws.specs.plant_model.Parent as parent
use Rattle.plant_laws.specs.plant_model.Routes.{routes}
use Rattle.plant_laws.specs.plant_model.Settings.{inner_ways, place, way, ways, ways_along}
use Rattle.plant_laws.proofs.Runs.Unrouted.{way_inside}
use Rattle.plant_laws.specs.plant_model.Solving as solving
use Rattle.plant_laws.specs.plant_model.State.{Connection, Loads, Pops, Takes, Says, Ups, Downs, Clears, Solves, Expires, Hands}
use Rattle.plant_laws.specs.plant_model.Deeds as deeds
use Rattle.plant_laws.specs.plant_model.Deeds.{element_of, input_of, read_as, with_inbox, our_offer, own_message}
use Rattle.plant_laws.specs.plant_model.Events as events
use Rattle.plant_laws.specs.plant_model.Events.{is_down}
use Rattle.plant_laws.specs.plant_model.Plant.{Pin, Segment, first_pin, Plant, PlantDeed, Happened, Entry, Run, deeds_of, is_full, ElementSolves, ParentSolves, Happens, Steps}
use Rattle.plant_laws.specs.Sending.{AreAll, DeedSends, AllSent}
use Rattle.request_table.specs.Pending.{same_peer}
use Rattle.plant_laws.proofs.Runs.Queues.{same_as_is}
use Rattle.plant_laws.proofs.WrittenForm.EveryWritten.{every_written}
use Rattle.run_laws.specs.Settling.{Holds, Reaches, AllReach, KeepsTo, TablesReach, IsUp, RunsAreCalm, CarriesBreakNothing}
use Rattle.run_laws.proofs.SettlingLemmas.Pairs.{AllApart, both, both_flips, first_apart, same_back, same_self, set_here, set_other}
use Rattle.run_laws.proofs.SettlingLemmas.ElementsReach as elements
use Rattle.run_laws.proofs.SettlingLemmas.ParentsReach as parents
use Rattle.run_laws.proofs.SettlingLemmas.Turns.{hears, heard_stays}
use Rattle.run_laws.proofs.SettlingLemmas.Calm.{Move, tables_on, ReadsAgain, Calm, Again, Kept, same_calm, sends_calm, element_tables, parent_tables, outside_input_kept, tick_outside_kept, fall_kept}
use Rattle.run_laws.proofs.SettlingLemmas.CalmLinks.{open_again, there_set, back_set, other_set, break_adjacency_kept, tick_adjacencies_kept, carried_calm}
use Rattle.run_laws.proofs.SettlingLemmas.Adjacencies.{Distinct, adjacencies_apart, adjacencies_distinct, linked_apart, linked_flips, adjacency_ends_apart}

module _ (c : Codec) (codec : IsCodec c) (n : NetworkParts) (net : IsNetwork n) where
  abbrev from : Plant → Move
  from s = record { state = s; deeds = [] }

  apart_of : (a b : As) → is_linked n a b ≡ true → same_as a b ≡ false
  apart_of a b linked = linked_apart a b (adjacencies n) (adjacencies_apart n net) linked

  -- ---- events, from a calm state

  module _ (s : Plant) (calm : Calm c n s) where
    abbrev Did : Happened → Type 0
    Did h = Again c n h.deeds → Calm c n h.state

    pick : (b : Bool) (h k : Happened) → Did h → Did k → Did (cond b h k)
    pick true h k d e = d
    pick false h k d e = e

    stays : Kept c n (from s)
    stays again = calm

    -- other sessions, framers and inboxes of outside peers
    rest : (t : Plant) → t.sessions ≡ s.sessions → t.queues ≡ s.queues → t.elements ≡ s.elements → t.parent ≡ s.parent → Kept c n (from t)
    rest t sessions queues elements' parent' again = same_calm c n s t sessions queues elements' parent' calm

    open_did : (i holder : ℕ) → Did (events.open_peer Pin Segment c n open_of i holder s)
    open_did i holder = pick (is_some (peer_row i n.peers)) (events.open_new Pin Segment c n open_of i holder s (s.accesses i).connection) _ (go (s.accesses i).connection) stays
      where
        go : (o : Option Connection) → Did (events.open_new Pin Segment c n open_of i holder s o)
        go None =
            let t = events.connect Pin Segment c n open_of i holder s in
            outside_input_kept c n i input.Begin (from t) (rest t refl refl refl refl)
        go (Some x) = stays

    shut_did : (i : ℕ) → Did (events.shut Pin Segment c n open_of i s)
    shut_did i = go (s.accesses i).connection
      where
        go : (o : Option Connection) → Did (events.shut_open Pin Segment c n open_of i s o)
        go None = stays
        go (Some x) =
            let g = deeds.fall Pin Segment c n open_of (element_of n i) (Outside i) (from s) in
            λ again. same_calm c n g.state (events.set_access Pin Segment c n open_of i (record { opened = (s.accesses i).opened; connection = None }) g.state) refl refl refl refl
            (fall_kept c n (element_of n i) (Outside i) (from s) stays again)

    feed_did : (i : ℕ) (bytes : Bytes) → Did (events.feed Pin Segment c n open_of i bytes s)
    feed_did i bytes = go (s.accesses i).connection
      where
        same : (b : Bool) (t : Plant) → Calm c n t → Calm c n (cond b s t)
        same true t h = calm
        same false t h = h

        go : (o : Option Connection) → Did (events.feed_open Pin Segment c n open_of i bytes s o)
        go None = stays
        go (Some x) =
            let t = deeds.with_access Pin Segment c n open_of i (events.fed c bytes) s in
            λ again. same (is_down x.session.phase) t (same_calm c n s t refl refl refl refl calm)

    take_did : (i : ℕ) → Did (events.take Pin Segment c n open_of i s)
    take_did i = go (s.accesses i).connection
      where
        item : (inbox : List (Option Bytes)) → Did (events.take_item Pin Segment c n open_of i s inbox)
        item [] = stays
        item (x ∷ others) =
            let t = deeds.with_access Pin Segment c n open_of i (with_inbox others) s in
            outside_input_kept c n i (input_of c x) (from t) (rest t refl refl refl refl)

        go : (o : Option Connection) → Did (events.take_open Pin Segment c n open_of i s o)
        go None = stays
        go (Some x) = item x.inbox

    carry_did : (a b : As) → Did (events.carry Pin Segment c n open_of a b s)
    carry_did a b = by (is_linked n a b) refl
      where
        go : is_linked n a b ≡ true → (q : List Bytes) → s.queues a b ≡ q → Did (events.carry_first Pin Segment c n open_of a b s q)
        go linked [] is = stays
        go linked (x ∷ others) is =
            carried_calm c codec n a b (apart_of a b linked) linked (linked_flips a b (adjacencies n) linked) s calm x others is (adjacency a b)
            (hears c (s.sessions b a) (s.sessions a b).phase x others (subst (λ (q : List Bytes). Holds c (s.sessions a b).phase (s.sessions b a).phase q) is (calm.queues a b linked)))

        by : (t : Bool) → is_linked n a b ≡ t → Did (cond t (events.carry_first Pin Segment c n open_of a b s (s.queues a b)) (events.refused Pin Segment c n open_of NoSuchPeer s))
        by true linked = go linked (s.queues a b) refl
        by false linked = stays

    break_did : (a b : As) → Did (events.break Pin Segment c n open_of a b s)
    break_did a b = by (is_linked n a b) refl
      where
        by : (t : Bool) → is_linked n a b ≡ t → Did (cond t (events.answered Pin Segment c n open_of Done (deeds.break_adjacency Pin Segment c n open_of (adjacency a b) (from s))) (events.refused Pin Segment c n open_of NoSuchPeer s))
        by true linked = break_adjacency_kept c codec n (adjacency a b) (adjacency_ends_apart a b (apart_of a b linked)) (from s) stays
        by false linked = stays

    tick_did : (t : ℕ) → Did (events.tick Pin Segment c n open_of t s)
    tick_did t =
        let now = events.later s.clock t in
        let u : Plant = record s { clock = now } in
        let h = deeds.tick_outside Pin Segment c n open_of 0 n.peers (record { 0 = now }) (from u) in
        let k = deeds.tick_adjacencies Pin Segment c n open_of (adjacencies n) (record { 0 = now }) h in
        let kept : Kept c n k = tick_adjacencies_kept c codec n (adjacencies n) (adjacencies_apart n net) (record { 0 = now }) h (tick_outside_kept c n 0 n.peers (record { 0 = now }) (from u) (rest u refl refl refl refl)) in
        λ again.
        let calm' = kept again.1 in
        record { queues = calm'.queues; tables = record { elements = λ d real. (let here = calm'.tables.elements d real in record { asked = here.asked; asks = here.asks }); parent = calm'.tables.parent } }

    drain_did : (i holder : ℕ) → Did (events.drain Pin Segment c n open_of i holder s)
    drain_did i holder = go (s.accesses i).connection
      where
        go : (o : Option Connection) → Did (events.drain_open Pin Segment c n open_of i holder s o)
        go None = stays
        go (Some x) =
            pick (x.holder == holder) _ _
            (λ again. same_calm c n s (deeds.with_access Pin Segment c n open_of i events.drained s) refl refl refl refl calm) stays

    -- ---- solves

    found : {T : Type 0} (Up : As → Type 0) (k : ℕ) (rows : List (ℕ × Held T)) (h : Held T) → lookup (nat_eq k) rows ≡ Some h → AllReach Up rows → Reaches Up h.key.peer
    found {T} Up k [] h is all = absurd (let clash : None ≡ Some h = is in cc)
    found {T} Up k (x ∷ xs) h is all = go (found Up k xs h) (nat_eq k x.0) is
      where
        go : (lookup (nat_eq k) xs ≡ Some h → AllReach Up xs → Reaches Up h.key.peer) → (b : Bool) → cond b (Some x.1) (lookup (nat_eq k) xs) ≡ Some h → Reaches Up h.key.peer
        go more true is' = let same : x.1 ≡ h = cc in subst (λ (z : Held T). Reaches Up z.key.peer) same all.0
        go more false is' = more is' all.1

    element_did : (d : As) (k : ℕ) (h : Happened) → ElementSolves c n d k s h → Did h
    element_did d k h x =
        let r = solving.commit c (place n d) (k, x.held) x.down s.clock (λ b. b.segment) (solving.job_found x.rows.source_known x.rows.target_known x.rows.best) (s.elements d) in
        let keeps = calm.tables.elements d x.upper in
        let told = elements.commit_tells Pin Segment (IsUp s d) c (place n d) (k, x.held) x.down s.clock (λ b. b.segment) x.rows.source_known x.rows.target_known x.rows.best (s.elements d)
        (found (IsUp s d) k (s.elements d).pending.rows x.held x.is_held keeps.asked) keeps in
        subst Did (sym x.is) (λ again.
        sends_calm c n d r.outputs s (deeds.with_element Pin Segment c n open_of d r.element s) refl refl told.sends again.0 calm.queues (element_tables c n (IsUp s) d r.element s told.keeps calm.tables))

    parent_did : (k : ℕ) (h : Happened) → ParentSolves c n k s h → Did h
    parent_did k h x =
        let r = parent.commit c (k, x.held) x.answer s.parent in
        let keeps = calm.tables.parent in
        let told = parents.commit_tells (IsUp s parent_as) c (k, x.held) x.answer s.parent (found (IsUp s parent_as) k s.parent.pending.rows x.held x.is_held keeps.asked) keeps in
        subst Did (sym x.is) (λ again.
        sends_calm c n parent_as r.outputs s (deeds.with_parent Pin Segment c n open_of r.parent s) refl refl told.sends again.0 calm.queues (parent_tables c n (IsUp s) r.parent s told.keeps calm.tables))

    by_did : (h k : Happened) → k ≡ h → Did h → Did k
    by_did h k is did = subst Did (sym is) did

    happens_did : (e : Event) (h : Happened) → Happens c n s e h → Did h
    happens_did (event.Load d g) h is =
        by_did _ h is
        (pick (is_element n d) _ _ (pick (is_full (s.current d).number (s.elements d).pending.rows) _ _ stays
        (λ again. record { queues = calm.queues; tables = record { elements = calm.tables.elements; parent = calm.tables.parent } })) stays)
    happens_did (event.Open i holder) h is = by_did _ h is (open_did i holder)
    happens_did (event.Shut i) h is = by_did _ h is (shut_did i)
    happens_did (event.Feed i bytes) h is = by_did _ h is (feed_did i bytes)
    happens_did (event.Take i) h is = by_did _ h is (take_did i)
    happens_did (event.Carry a b) h is = by_did _ h is (carry_did a b)
    happens_did (event.Break a b) h is = by_did _ h is (break_did a b)
    happens_did (event.Tick t) h is = by_did _ h is (tick_did t.0)
    happens_did (event.Drain i holder) h is = by_did _ h is (drain_did i holder)
    happens_did (event.Solve d k) h (inl none) = by_did _ h none.1 stays
    happens_did (event.Solve d k) h (inr (inl none)) = by_did _ h none.2 stays
    happens_did (event.Solve d k) h (inr (inr (inl solves))) = element_did d k h solves.1
    happens_did (event.Solve d k) h (inr (inr (inr solves))) = parent_did k h solves.2

    pub steps_did : (e : Event) (h : Happened) → Steps c n s e h → Did h
    steps_did e h (inl is) = happens_did e h is
    steps_did e h (inr none) = by_did _ h none.1 stays

  -- ---- the opening state

  -- a pair of ends as new
  pub record IsBlank (g : Move) (a b : As) : Type 0 where
    pub there : g.state.queues a b ≡ []
    pub back : g.state.queues b a ≡ []

  abbrev IsBegun : Move → As → As → Type 0
  IsBegun g a b = Holds c (g.state.sessions a b).phase (g.state.sessions b a).phase (g.state.queues a b)

  -- an adjacency that has begun leaves other pairs as they are
  module _ (x : Adjacency) (g : Move) where
    abbrev began : Move
    began = deeds.begin_adjacency Pin Segment c n open_of 0 x g

    abbrev text : Bytes
    text = c.text (own_message (own.Open (our_offer 0)))

    abbrev next : Session
    next = (turn_of (new_state (our_offer 0) (record { 0 = g.state.clock })) input.Begin).next

    abbrev first_queues : As → As → List Bytes
    first_queues = set_pair x.lower x.upper (g.state.queues x.lower x.upper ++ text ∷ []) g.state.queues

    begun_queue : (a b : As) → both x.lower x.upper a b ≡ false → both x.upper x.lower a b ≡ false → began.state.queues a b ≡ g.state.queues a b
    begun_queue a b miss miss' =
        set_other x.upper x.lower (first_queues x.upper x.lower ++ text ∷ []) first_queues a b miss'
        ∙ set_other x.lower x.upper (g.state.queues x.lower x.upper ++ text ∷ []) g.state.queues a b miss

    module _ (apart : same_as x.lower x.upper ≡ false) where
      begun_session : (a b : As) → both x.lower x.upper a b ≡ false → both x.upper x.lower a b ≡ false → began.state.sessions a b ≡ g.state.sessions a b
      begun_session a b miss miss' = other_set c codec n x.lower x.upper apart next next g.state.sessions a b miss miss'

      here_queue : g.state.queues x.lower x.upper ≡ [] → began.state.queues x.lower x.upper ≡ text ∷ []
      here_queue none =
          set_other x.upper x.lower (first_queues x.upper x.lower ++ text ∷ []) first_queues x.lower x.upper (first_apart x.upper x.lower x.lower x.upper (same_back x.lower x.upper apart))
          ∙ set_here x.lower x.upper (g.state.queues x.lower x.upper ++ text ∷ []) g.state.queues ∙ ap (λ (q : List Bytes). q ++ text ∷ []) none

      back_queue : g.state.queues x.upper x.lower ≡ [] → began.state.queues x.upper x.lower ≡ text ∷ []
      back_queue none =
          set_here x.upper x.lower (first_queues x.upper x.lower ++ text ∷ []) first_queues
          ∙ ap (λ (q : List Bytes). q ++ text ∷ [])
          (set_other x.lower x.upper (g.state.queues x.lower x.upper ++ text ∷ []) g.state.queues x.upper x.lower (first_apart x.lower x.upper x.upper x.lower apart) ∙ none)

      here_begun : IsBlank g x.lower x.upper → IsBegun began x.lower x.upper × IsBegun began x.upper x.lower
      here_begun blank =
          let here : (began.state.sessions x.lower x.upper).phase ≡ phase.OpenWait = ap (λ (z : Session). z.phase) (there_set c codec n x.lower x.upper apart next next g.state.sessions) in
          let back : (began.state.sessions x.upper x.lower).phase ≡ phase.OpenWait = ap (λ (z : Session). z.phase) (back_set c codec n x.lower x.upper apart next next g.state.sessions) in
          let one : Holds c phase.OpenWait phase.OpenWait (text ∷ []) = (open_again c codec n 0 (omega arith), tt) in (
            subst (λ (q : List Bytes). Holds c (began.state.sessions x.lower x.upper).phase (began.state.sessions x.upper x.lower).phase q) (sym (here_queue blank.there))
                (subst (λ (p : Phase). Holds c (began.state.sessions x.lower x.upper).phase p (text ∷ [])) (sym back) (subst (λ (p : Phase). Holds c p phase.OpenWait (text ∷ [])) (sym here) one)),
            subst (λ (q : List Bytes). Holds c (began.state.sessions x.upper x.lower).phase (began.state.sessions x.lower x.upper).phase q) (sym (back_queue blank.back))
                (subst (λ (p : Phase). Holds c (began.state.sessions x.upper x.lower).phase p (text ∷ [])) (sym here) (subst (λ (p : Phase). Holds c p phase.OpenWait (text ∷ [])) (sym back) one)),
          )

  -- of two ends neither order is that of the adjacency
  missed : (x : Adjacency) (a b : As) → same_as x.lower x.upper ≡ false → same_link x.lower x.upper a b ≡ false → (both x.lower x.upper a b ≡ false) × (both x.upper x.lower a b ≡ false)
  missed x a b apart e = go (same_as x.lower a) (same_as x.upper b) (same_as x.lower b) (same_as x.upper a) refl refl refl refl e
    where
      clash : same_as x.lower a ≡ true → same_as x.upper a ≡ true → ⊥
      clash low up =
          let same : x.lower ≡ x.upper = same_as_is x.lower a low ∙ sym (same_as_is x.upper a up) in
          let hit : same_as x.lower x.upper ≡ true = subst (λ (z : As). same_as x.lower z ≡ true) same (same_self x.lower) in
          let out : true ≡ false = sym hit ∙ apart in cc

      go : (p q r t : Bool) → same_as x.lower a ≡ p → same_as x.upper b ≡ q → same_as x.lower b ≡ r → same_as x.upper a ≡ t → cond p q (cond r t false) ≡ false → (cond p q false ≡ false) × (cond t r false ≡ false)
      go true true r t e f g h is = absurd (let out : true ≡ false = is in cc)
      go true false r true e f g h is = absurd (clash e h)
      go true false r false e f g h is = (refl, refl)
      go false q true true e f g h is = absurd (let out : true ≡ false = is in cc)
      go false q true false e f g h is = (refl, refl)
      go false q false true e f g h is = (refl, refl)
      go false q false false e f g h is = (refl, refl)

  flipped : (l u a b : As) → (both l u a b ≡ false) × (both u l a b ≡ false) → (both l u b a ≡ false) × (both u l b a ≡ false)
  flipped l u a b miss = (both_flips l u b a ∙ miss.1, both_flips u l b a ∙ miss.0)

  blank_other : (x : Adjacency) (g : Move) (a b : As) → (both x.lower x.upper a b ≡ false) × (both x.upper x.lower a b ≡ false) → IsBlank g a b → IsBlank (began x g) a b
  blank_other x g a b miss blank =
      let back = flipped x.lower x.upper a b miss in
      record { there = begun_queue x g a b miss.0 miss.1 ∙ blank.there; back = begun_queue x g b a back.0 back.1 ∙ blank.back }

  begun_other : (x : Adjacency) (g : Move) (a b : As) → same_as x.lower x.upper ≡ false → (both x.lower x.upper a b ≡ false) × (both x.upper x.lower a b ≡ false) → IsBegun g a b → IsBegun (began x g) a b
  begun_other x g a b apart miss begun =
      let back = flipped x.lower x.upper a b miss in
      let t = (began x g).state in
      subst (λ (q : List Bytes). Holds c (t.sessions a b).phase (t.sessions b a).phase q) (sym (begun_queue x g a b miss.0 miss.1))
      (subst (λ (z : Session). Holds c (t.sessions a b).phase z.phase (g.state.queues a b)) (sym (begun_session x g apart b a back.0 back.1))
      (subst (λ (z : Session). Holds c z.phase (g.state.sessions b a).phase (g.state.queues a b)) (sym (begun_session x g apart a b miss.0 miss.1)) begun))

  adjacencies_keep : (xs : List Adjacency) (g : Move) (a b : As) → AllApart xs → has_adjacency a b xs ≡ false → IsBegun g a b → IsBegun (events.begin_adjacencies Pin Segment c n open_of xs g) a b
  adjacencies_keep [] g a b all none begun = begun
  adjacencies_keep (x ∷ xs) g a b all none begun = go (adjacencies_keep xs (began x g) a b all.1) (same_link x.lower x.upper a b) refl none
    where
      go : (has_adjacency a b xs ≡ false → IsBegun (began x g) a b → IsBegun (events.begin_adjacencies Pin Segment c n open_of xs (began x g)) a b) → (t : Bool) → same_link x.lower x.upper a b ≡ t → cond t true (has_adjacency a b xs) ≡ false →
          IsBegun (events.begin_adjacencies Pin Segment c n open_of xs (began x g)) a b
      go more true is none' = absurd (let out : true ≡ false = none' in cc)
      go more false is none' = more none' (begun_other x g a b all.0 (missed x a b all.0 is) begun)

  adjacencies_begun : (xs : List Adjacency) (g : Move) → AllApart xs → Distinct xs → (a b : As) → has_adjacency a b xs ≡ true → IsBlank g a b → IsBegun (events.begin_adjacencies Pin Segment c n open_of xs g) a b
  adjacencies_begun [] g all distinct a b has blank = absurd (let out : false ≡ true = has in cc)
  adjacencies_begun (x ∷ xs) g all distinct a b has blank = go (adjacencies_begun xs (began x g) all.1 distinct.1 a b) (adjacencies_keep xs (began x g) a b all.1) (same_link x.lower x.upper a b) refl has
    where
      Later : Move → Type 0
      Later h = IsBegun (events.begin_adjacencies Pin Segment c n open_of xs h) a b

      -- the adjacency itself, one way or the other
      here : (p q r t : Bool) → same_as x.lower a ≡ p → same_as x.upper b ≡ q → same_as x.lower b ≡ r → same_as x.upper a ≡ t → cond p q (cond r t false) ≡ true → (has_adjacency a b xs ≡ false) × IsBegun (began x g) a b
      here true true r t e f k h is =
          let low = same_as_is x.lower a e in
          let up = same_as_is x.upper b f in
          subst (λ (z : As). (has_adjacency z b xs ≡ false) × IsBegun (began x g) z b) low
          (subst (λ (z : As). (has_adjacency x.lower z xs ≡ false) × IsBegun (began x g) x.lower z) up
          (distinct.0, (here_begun x g all.0 (subst (λ (z : As). IsBlank g x.lower z) (sym up) (subst (λ (z : As). IsBlank g z b) (sym low) blank))).0))
      here true false r t e f k h is = absurd (let out : false ≡ true = is in cc)
      here false q true true e f k h is =
          let low = same_as_is x.lower b k in
          let up = same_as_is x.upper a h in
          let turned : IsBlank g x.lower x.upper =
          subst (λ (z : As). IsBlank g x.lower z) (sym up) (subst (λ (z : As). IsBlank g z a) (sym low) (record { there = blank.back; back = blank.there })) in
          subst (λ (z : As). (has_adjacency z b xs ≡ false) × IsBegun (began x g) z b) up
          (subst (λ (z : As). (has_adjacency x.upper z xs ≡ false) × IsBegun (began x g) x.upper z) low
          (not_has, (here_begun x g all.0 turned).1))
        where
          not_has : has_adjacency x.upper x.lower xs ≡ false
          not_has = elim (cases_Bool (has_adjacency x.upper x.lower xs)) [
            | inr miss ↦ miss
            | inl hit ↦ absurd (let out : true ≡ false = sym (linked_flips x.upper x.lower xs hit) ∙ distinct.0 in cc)
          ]
      here false q true false e f k h is = absurd (let out : false ≡ true = is in cc)
      here false q false t e f k h is = absurd (let out : false ≡ true = is in cc)

      go : (has_adjacency a b xs ≡ true → IsBlank (began x g) a b → Later (began x g)) → (has_adjacency a b xs ≡ false → IsBegun (began x g) a b → Later (began x g)) → (t : Bool) → same_link x.lower x.upper a b ≡ t → cond t true (has_adjacency a b xs) ≡ true → Later (began x g)
      go more keep true is has' =
          let both' = here (same_as x.lower a) (same_as x.upper b) (same_as x.lower b) (same_as x.upper a) refl refl refl refl is in
          keep both'.0 both'.1
      go more keep false is has' = more has' (blank_other x g a b (missed x a b all.0 is) blank)

  -- nobody reaches anybody
  abbrev Nobody : As → As → Type 0
  Nobody a b = ⊥

  begun_tables : (xs : List Adjacency) (g : Move) → TablesReach Nobody g.state → TablesReach Nobody (events.begin_adjacencies Pin Segment c n open_of xs g).state
  begun_tables [] g tables = tables
  begun_tables (x ∷ xs) g tables = begun_tables xs (began x g) (record { elements = tables.elements; parent = tables.parent })

  none_up : (b : As) (ways' : List Way) (w : Way) → w.up ≡ false → parent.is_up (way_to (Inner b) ways') ≡ false → parent.is_up (way_to (Inner b) (w ∷ ways')) ≡ false
  none_up b ways' w down rest' = go (same_peer w.peer (Inner b))
    where
      go : (t : Bool) → parent.is_up (cond t (Some w) (way_to (Inner b) ways')) ≡ false
      go true = down
      go false = rest'

  all_down : (d : As) (xs : List Adjacency) (b : As) → parent.is_up (way_to (Inner b) (ways_along d xs)) ≡ false
  all_down d [] b = refl
  all_down d (x ∷ xs) b = go (all_down d xs b) (same_as x.lower d) (same_as x.upper d)
    where
      go : parent.is_up (way_to (Inner b) (ways_along d xs)) ≡ false → (p q : Bool) → parent.is_up (way_to (Inner b) (cond p (way x.upper ∷ ways_along d xs) (cond q (way x.lower ∷ ways_along d xs) (ways_along d xs)))) ≡ false
      go more true q = none_up b (ways_along d xs) (way x.upper) refl more
      go more false true = none_up b (ways_along d xs) (way x.lower) refl more
      go more false false = more

  nobody_keeps : {T : Type 0} (d : As) → KeepsTo {T = T} (Nobody d) [] (ways n d)
  nobody_keeps d = record {
    asked = tt;
    asks = λ b up. (let out : true ≡ false = sym up ∙ ap (λ (o : Option Way). parent.is_up o) (way_inside b (inner_ways n d) (routes n d)) ∙ all_down d (adjacencies n) b in cc);
  }

  nobody_above : {T : Type 0} → KeepsTo {T = T} (Nobody parent_as) [] (inner_ways n parent_as)
  nobody_above = record { asked = tt; asks = λ b up. (let out : true ≡ false = sym up ∙ all_down parent_as (adjacencies n) b in cc) }

  opened_calm : Calm c n (events.opening Pin Segment c n open_of first_pin).state
  opened_calm =
      let b = events.bare Pin Segment c n open_of first_pin in
      let t = (events.opening Pin Segment c n open_of first_pin).state in
      record {
        queues = λ a d linked. adjacencies_begun (adjacencies n) (from b) (adjacencies_apart n net) (adjacencies_distinct n net) a d linked (record { there = refl; back = refl });
        tables = tables_on Nobody (IsUp t) t (λ a d up. absurd up) (begun_tables (adjacencies n) (from b) (record { elements = λ d real. nobody_keeps d; parent = nobody_above }));
      }

  -- ---- runs

  pub split_again : (xs ys : List PlantDeed) → Again c n (xs ++ ys) → Again c n xs × Again c n ys
  split_again [] ys again = (tt, again)
  split_again (x ∷ xs) ys again = let rest' = split_again xs ys again.1 in ((again.0, rest'.0), rest'.1)

  pub run_calm : (es : List Entry) (s : Plant) → Run c n es s → Again c n (deeds_of c n es) → Calm c n s
  run_calm [] s is again = subst (Calm c n) (sym is) opened_calm
  run_calm (e ∷ older) s run again =
      let two = split_again e.deeds (deeds_of c n older) again in
      steps_did run.0 (run_calm older run.0 run.1 two.1) e.event (record { answer = e.answer; state = s; deeds = e.deeds }) run.3 two.0

  all_again : (os : List Output) → AreAll IsWritten os → AreAll (ReadsAgain c n) os
  all_again [] written = tt
  all_again (o ∷ os) written = (codec.texts.reads o.message written.0, all_again os written.1)

  deed_again : (d : PlantDeed) → DeedSends IsWritten d → DeedSends (ReadsAgain c n) d
  deed_again (Takes at p m os) written = all_again os written
  deed_again (Says at o) written = all_again (o ∷ []) written
  deed_again (Downs at p os) written = all_again os written
  deed_again (Solves at k os keys) written = all_again os written
  deed_again _ written = tt

  pub written_again : (ds : List PlantDeed) → AllSent IsWritten ds → Again c n ds
  written_again [] written = tt
  written_again (d ∷ ds) written = (deed_again d written.0, written_again ds written.1)

pub runs_are_calm : RunsAreCalm
runs_are_calm c codec n net es s run short = run_calm c codec n net es s run (written_again c codec n net (deeds_of c n es) (every_written c codec n net es s run short))

pub carries_break_nothing : CarriesBreakNothing
carries_break_nothing c n s calm a b linked x rest is =
    let held = subst (λ (q : List Bytes). Holds c (s.sessions a b).phase (s.sessions b a).phase q) is (calm.queues a b linked) in
    heard_stays c (s.sessions a b).phase (s.sessions b a).phase x rest (turn_of (s.sessions b a) (read_as (c.read x))) (hears c (s.sessions b a) (s.sessions a b).phase x rest held)
