-- No more messages are taken from outside than octets were fed: over the events of a run.
use Rattle.std.proofs.Common.{◌≡◌, ◌≤◌, ◌+◌, ℕ, suc, Bool, true, false, cond, ◌==◌, List, [], ◌∷◌, ◌++◌, Option, Some, None, is_some, length, map, inl, inr, refl, sym, ap, subst, arith, length-append}
use Rattle.std.proofs.Math.Nat.{le_refl}
use Rattle.std.proofs.lemmas.Bool.{eq-eqb}
use Rattle.plant_laws.specs.plant_model.Types.{As, Message, NetworkParts, Outside}
use Rattle.disclosure.specs.Shown.{open_of}
use Rattle.pcep_framing.specs.Frames.{Framing, IsMessage, AreMessages, joined, FeedsBy}
use Rattle.pcep_session.specs.declared.session.Input.TheVariants as input
use Rattle.plant_text.specs.Names.{parent_as}
use Rattle.plant_text.specs.Settings.{adjacency, adjacencies, is_linked, is_element, peer_row}
use Rattle.plant_laws.specs.plant_model.declared.event.Event.{Event}
use Rattle.plant_laws.specs.plant_model.declared.event.Event.TheVariants as event
use Rattle.plant_laws.specs.plant_model.declared.outcome.Outcome.TheVariants.{Done}
use Rattle.plant_laws.specs.plant_model.declared.outcome.Refused.TheVariants.{NoSuchPeer}
use Rattle.plant_laws.specs.plant_model.Names.{set_number, set_pair}
use Rattle.plant_laws.specs.plant_model.Wire.{Bytes, Codec}
use Rattle.plant_laws.specs.plant_model.Laws.{IsCodec}
use Rattle.plant_laws.specs.plant_model.Solving.{commit, job_found}
use Rattle.plant_laws.specs.plant_model.Parent as parent
use Rattle.plant_laws.specs.plant_model.Settings.{place}
use Rattle.plant_laws.specs.plant_model.State.{Connection, Access, Pops}
use Rattle.plant_laws.specs.plant_model.Deeds.{Going, element_of, on_connection, with_inbox, input_of, with_parent, with_element, fall, break_adjacency, tick_outside, tick_adjacencies, with_access}
use Rattle.plant_laws.specs.plant_model.Events as events
use Rattle.plant_laws.specs.plant_model.Events.{split_all, bad_item, fed, drained, is_down}
use Rattle.plant_laws.specs.plant_model.Plant.{Pin, Segment, first_pin, Plant, Happened, Entry, Run, deeds_of, is_full, Happens}
use Rattle.run_laws.specs.Counting.{fed_by, fed_bytes, heard}
use Rattle.run_laws.proofs.OctetLemmas.Below.{below, below_le, below_none, below_more, below_less, below_grows}
use Rattle.run_laws.proofs.OctetLemmas.Putting.{Core}
use Rattle.run_laws.proofs.OctetLemmas.Feeding.{some_count, unread, unread_at, heard_append, Under, set_kept, access_kept, puts_kept, fall_fine, outside_input_fine, break_adjacency_fine, inner_input_fine, tick_outside_fine, tick_adjacencies_fine, begin_adjacencies_fine}

-- ---- sums that go on

-- Of an event that is fed so many octets: what bounds the messages taken so far, with what was not taken yet, and the octets, bounds both still.
record Moves (s : Plant) (w : ℕ) (h : Happened) : Type 0 where
  pub bounds : (base most : ℕ) → ((k : ℕ) → base + below (unread_at s) k ≤ most) → (k : ℕ) → base + heard h.deeds + below (unread_at h.state) k ≤ most + w

quiet_moves : (s : Plant) (w : ℕ) (h : Happened) → ((i : ℕ) → unread_at h.state i ≤ unread_at s i) → heard h.deeds ≤ 0 → Moves s w h
quiet_moves s w h less none = record {
  bounds = λ base most all k. plain base most (heard h.deeds) (below (unread_at h.state) k) (below (unread_at s) k) none (below_le (unread_at h.state) (unread_at s) less k) (all k);
}
  where
    plain : (base most d x y : ℕ) → d ≤ 0 → x ≤ y → base + y ≤ most → base + d + x ≤ most + w
    plain base most d x y one two three = omega (arith, one, two, three)

fed_moves : (s : Plant) (i w : ℕ) (h : Happened) → ((j : ℕ) → (i == j) ≡ false → unread_at h.state j ≤ unread_at s j) → unread_at h.state i ≤ unread_at s i + w → heard h.deeds ≤ 0 → Moves s w h
fed_moves s i w h others here none = record {
  bounds = λ base most all k. plain base most (heard h.deeds) (below (unread_at h.state) k) (below (unread_at s) k) none (below_more (unread_at h.state) (unread_at s) i w others here k) (all k);
}
  where
    plain : (base most d x y : ℕ) → d ≤ 0 → x ≤ y + w → base + y ≤ most → base + d + x ≤ most + w
    plain base most d x y one two three = omega (arith, one, two, three)

-- one message less
taken_moves : (s : Plant) (f : ℕ → ℕ) (i v : ℕ) (h : Happened) → ((j : ℕ) → f j ≤ unread_at s j) → f i + v ≤ unread_at s i → ((j : ℕ) → unread_at h.state j ≤ f j) → heard h.deeds ≤ v → Moves s 0 h
taken_moves s f i v h each here less few = record {
  bounds = λ base most all k. plain base most (heard h.deeds) (below (unread_at h.state) k) (below f k) (below f (k + (1 + i))) (below (unread_at s) (k + (1 + i))) few
      (below_le (unread_at h.state) f less k) (below_grows f k (k + (1 + i)) (omega arith)) (below_less f (unread_at s) i v each here (k + (1 + i)) (omega arith)) (all (k + (1 + i)));
}
  where
    plain : (base most d x y y' z : ℕ) → d ≤ v → x ≤ y → y ≤ y' → y' + v ≤ z → base + z ≤ most → base + d + x ≤ most + 0
    plain base most d x y y' z one two three four five = omega (arith, one, two, three, four, five)

pick : (s : Plant) (w : ℕ) (b : Bool) (h k : Happened) → Moves s w h → Moves s w k → Moves s w (cond b h k)
pick s w true h k x y = x
pick s w false h k x y = y

-- nothing happens
still : (s : Plant) (w : ℕ) (h : Happened) → h.state ≡ s → h.deeds ≡ [] → Moves s w h
still s w h state deeds =
    quiet_moves s w h (subst (λ (t : Plant). (i : ℕ) → unread_at t i ≤ unread_at s i) (sym state) (λ i. le_refl (unread_at s i))) (let none = ap heard deeds in omega (arith, none))

-- ---- inboxes

some_append : (xs ys : List (Option Bytes)) → some_count (xs ++ ys) ≡ some_count xs + some_count ys
some_append [] ys = omega arith
some_append (None ∷ xs) ys = some_append xs ys
some_append (Some x ∷ xs) ys = let more = some_append xs ys in omega (arith, more)

some_all : (xs : List Bytes) → some_count (map Some xs) ≡ length xs
some_all [] = refl
some_all (x ∷ xs) = ap suc (some_all xs)

bad_none : (b : Bool) → some_count (bad_item b) ≡ 0
bad_none true = refl
bad_none false = refl

one_item : (x : Option Bytes) (rest : List (Option Bytes)) → some_count (x ∷ rest) ≡ some_count rest + some_count (x ∷ [])
one_item None rest = omega arith
one_item (Some bytes) rest = omega arith

-- one access becomes another
access_other : (f : ℕ → Access) (i : ℕ) (a : Access) (j : ℕ) → (i == j) ≡ false → set_number i a f j ≡ f j
access_other f i a j miss = ap (λ (b : Bool). cond b a (f j)) miss

access_own : (f : ℕ → Access) (i : ℕ) (a : Access) → set_number i a f i ≡ a
access_own f i a = ap (λ (b : Bool). cond b a (f i)) (eq-eqb i i refl)

module _ (c : Codec) (codec : IsCodec c) (few : (frame : Bytes) → 1 ≤ length frame → length (c.split frame) ≤ length frame) (n : NetworkParts) where
  -- ---- a feed

  message_some : (f : Bytes) → IsMessage f → 1 ≤ length f
  message_some f is = let exact = is.exact in let least = is.head.least in omega (arith, exact, least)

  split_few : (fs : List Bytes) → AreMessages fs → some_count (split_all c fs) ≤ length (joined fs)
  split_few [] all = omega arith
  split_few (f ∷ fs) all =
      let parts = some_append (map Some (c.split f)) (split_all c fs) in
      let here = some_all (c.split f) in
      let one = few f (message_some f all.0) in
      let more = split_few fs all.1 in
      let long = length-append f (joined fs) in
      omega (arith, parts, here, one, more, long)

  fed_more : (bytes : Bytes) (x : Connection) → unread (Some (fed c bytes x)) ≤ unread (Some x) + length bytes
  fed_more bytes x = go x.framing.bad (codec.stream.frames x.framing bytes)
    where
      frames : List Bytes
      frames = (c.feed x.framing bytes).frames

      after : Framing
      after = (c.feed x.framing bytes).framing

      whole : some_count ((x.inbox ++ split_all c frames) ++ bad_item after.bad) ≡ some_count x.inbox + some_count (split_all c frames)
      whole =
          let one = some_append (x.inbox ++ split_all c frames) (bad_item after.bad) in
          let two = some_append x.inbox (split_all c frames) in
          let none = bad_none after.bad in
          omega (arith, one, two, none)

      go : (b : Bool) → FeedsBy b x.framing bytes frames after → some_count ((x.inbox ++ split_all c frames) ++ bad_item after.bad) + length after.held ≤ some_count x.inbox + length x.framing.held + length bytes
      go true h =
          let split : some_count (split_all c frames) ≡ 0 = ap (λ (fs : List Bytes). some_count (split_all c fs)) h.0 in
          let held : length after.held ≡ length x.framing.held = ap (λ (f : Framing). length f.held) h.1 in
          omega (arith, whole, split, held)
      go false h =
          let split = split_few frames h.each in
          let all : length (joined frames ++ after.held) ≡ length (x.framing.held ++ bytes) = ap (λ (l : Bytes). length l) h.all in
          let one = length-append (joined frames) after.held in
          let two = length-append x.framing.held bytes in
          omega (arith, whole, split, all, one, two)

  module _ (s : Plant) where
    abbrev Start : Going Pin Segment
    Start = record { state = s; deeds = [] }

    own : ℕ → ℕ
    own = unread_at s

    under : Under c n (unread_at s) s
    under i = le_refl (unread_at s i)

    -- what is fine from here moves
    fine : (w : ℕ) (h : Happened) → Under c n (unread_at s) h.state × (heard h.deeds ≤ 0) → Moves s w h
    fine w h x = quiet_moves s w h x.0 x.1

    feed_moves : (i : ℕ) (bytes : Bytes) → Moves s (length bytes) (events.feed Pin Segment c n open_of i bytes s)
    feed_moves i bytes = go (s.accesses i).connection refl
      where
        t : Core
        t = with_access Pin Segment c n open_of i (fed c bytes) s

        here : (o : Option Connection) → (s.accesses i).connection ≡ o → unread (on_connection (fed c bytes) (record { opened = (s.accesses i).opened; connection = o })).connection ≤ unread o + length bytes
        here None is = omega arith
        here (Some x) is = fed_more bytes x

        by : (b : Bool) → Moves s (length bytes) (events.answered Pin Segment c n open_of Done (events.idle Pin Segment c n open_of (cond b s t)))
        by true = still s (length bytes) _ refl refl
        by false =
            fed_moves s i (length bytes) _
            (λ j miss. subst (λ (a : Access). unread a.connection ≤ unread_at s j) (sym (access_other s.accesses i (on_connection (fed c bytes) (s.accesses i)) j miss)) (le_refl (unread_at s j)))
            (subst (λ (a : Access). unread a.connection ≤ unread_at s i + length bytes) (sym (access_own s.accesses i (on_connection (fed c bytes) (s.accesses i)))) (here (s.accesses i).connection refl))
            (omega arith)

        go : (o : Option Connection) → (s.accesses i).connection ≡ o → Moves s (length bytes) (events.feed_open Pin Segment c n open_of i bytes s o)
        go None is = still s (length bytes) _ refl refl
        go (Some x) is = by (is_down x.session.phase)

    -- ---- a take

    item_moves : (i : ℕ) (x : Option Bytes) (rest : List (Option Bytes)) (k : Connection) → (s.accesses i).connection ≡ Some k → k.inbox ≡ x ∷ rest → Moves s 0 (events.take_item Pin Segment c n open_of i s (x ∷ rest))
    item_moves i x rest k is inbox =
        let y = outside_input_fine c n (unread_at t) 0 (some_count (x ∷ [])) i (input_of c x) (record { state = t; deeds = [] }) (got x) ((λ j. le_refl (unread_at t j)), omega arith) in
        taken_moves s (unread_at t) i (some_count (x ∷ [])) (events.take_item Pin Segment c n open_of i s (x ∷ rest)) each here y.0 (plain (heard (events.take_item Pin Segment c n open_of i s (x ∷ rest)).deeds) (some_count (x ∷ [])) y.1)
      where
        t : Core
        t = with_access Pin Segment c n open_of i (with_inbox rest) s

        plain : (d v : ℕ) → d ≤ v + 0 → d ≤ v
        plain d v one = omega (arith, one)

        got : (x' : Option Bytes) (m : Message) → input_of c x' ≡ input.Got m → 1 ≤ some_count (x' ∷ [])
        got None m e = absurd (let other : input.Bad ≡ input.Got m = e in cc)
        got (Some bytes) m e = omega arith

        left : unread (on_connection (with_inbox rest) (s.accesses i)).connection + some_count (x ∷ []) ≤ unread_at s i
        left =
            subst (λ (o : Option Connection). unread (on_connection (with_inbox rest) (record { opened = (s.accesses i).opened; connection = o })).connection + some_count (x ∷ []) ≤ unread o) (sym is)
            (let all : some_count k.inbox ≡ some_count (x ∷ rest) = ap some_count inbox in let one = one_item x rest in omega (arith, all, one))

        here : unread_at t i + some_count (x ∷ []) ≤ unread_at s i
        here = subst (λ (a : Access). unread a.connection + some_count (x ∷ []) ≤ unread_at s i) (sym (access_own s.accesses i (on_connection (with_inbox rest) (s.accesses i)))) left

        each : (j : ℕ) → unread_at t j ≤ unread_at s j
        each = set_kept c n (unread_at s) i (on_connection (with_inbox rest) (s.accesses i)) s (omega (arith, left)) under

    take_moves : (i : ℕ) → Moves s 0 (events.take Pin Segment c n open_of i s)
    take_moves i = go (s.accesses i).connection refl
      where
        item : (k : Connection) → (s.accesses i).connection ≡ Some k → (inbox : List (Option Bytes)) → k.inbox ≡ inbox → Moves s 0 (events.take_item Pin Segment c n open_of i s inbox)
        item k is [] e = still s 0 _ refl refl
        item k is (x ∷ rest) e = item_moves i x rest k is e

        go : (o : Option Connection) → (s.accesses i).connection ≡ o → Moves s 0 (events.take_open Pin Segment c n open_of i s o)
        go None is = still s 0 _ refl refl
        go (Some k) is = item k is k.inbox refl

    -- ---- other events

    open_moves : (i holder : ℕ) → Moves s 0 (events.open_peer Pin Segment c n open_of i holder s)
    open_moves i holder = pick s 0 (is_some (peer_row i n.peers)) (events.open_new Pin Segment c n open_of i holder s (s.accesses i).connection) (events.refused Pin Segment c n open_of NoSuchPeer s) (go (s.accesses i).connection) (still s 0 _ refl refl)
      where
        go : (o : Option Connection) → Moves s 0 (events.open_new Pin Segment c n open_of i holder s o)
        go None =
            let t = events.connect Pin Segment c n open_of i holder s in
            fine 0 _ (outside_input_fine c n (unread_at s) 0 0 i input.Begin (record { state = t; deeds = [] }) (λ m e. absurd (let other : input.Begin ≡ input.Got m = e in cc)) (set_kept c n (unread_at s) i _ s (omega arith) under, omega arith))
        go (Some x) = still s 0 _ refl refl

    shut_moves : (i : ℕ) → Moves s 0 (events.shut Pin Segment c n open_of i s)
    shut_moves i = go (s.accesses i).connection
      where
        go : (o : Option Connection) → Moves s 0 (events.shut_open Pin Segment c n open_of i s o)
        go None = still s 0 _ refl refl
        go (Some x) =
            let g = fall Pin Segment c n open_of (element_of n i) (Outside i) Start in
            let y = fall_fine c n (unread_at s) 0 (element_of n i) (Outside i) Start (under, omega arith) in
            fine 0 _ (set_kept c n (unread_at s) i (record { opened = (s.accesses i).opened; connection = None }) g.state (omega arith) y.0, y.1)

    carry_moves : (a b : As) → Moves s 0 (events.carry Pin Segment c n open_of a b s)
    carry_moves a b = pick s 0 (is_linked n a b) (events.carry_first Pin Segment c n open_of a b s (s.queues a b)) (events.refused Pin Segment c n open_of NoSuchPeer s) (go (s.queues a b)) (still s 0 _ refl refl)
      where
        go : (q : List Bytes) → Moves s 0 (events.carry_first Pin Segment c n open_of a b s q)
        go [] = still s 0 _ refl refl
        go (x ∷ rest) =
            let g : Going Pin Segment = record { state = record s { queues = set_pair a b rest s.queues }; deeds = Pops a b ∷ [] } in
            fine 0 _ (inner_input_fine c n (unread_at s) 0 (adjacency a b) b a (input_of c (Some x)) g (under, omega arith))

    break_moves : (a b : As) → Moves s 0 (events.break Pin Segment c n open_of a b s)
    break_moves a b =
        pick s 0 (is_linked n a b) (events.answered Pin Segment c n open_of Done (break_adjacency Pin Segment c n open_of (adjacency a b) Start)) (events.refused Pin Segment c n open_of NoSuchPeer s)
        (fine 0 _ (break_adjacency_fine c n (unread_at s) 0 (adjacency a b) Start (under, omega arith))) (still s 0 _ refl refl)

    tick_moves : (t : ℕ) → Moves s 0 (events.tick Pin Segment c n open_of t s)
    tick_moves t =
        let now = events.later s.clock t in
        let g : Going Pin Segment = record { state = record s { clock = now }; deeds = [] } in
        let outside = tick_outside Pin Segment c n open_of 0 n.peers (record { 0 = now }) g in
        let after = tick_adjacencies Pin Segment c n open_of (adjacencies n) (record { 0 = now }) outside in
        let y = tick_adjacencies_fine c n (unread_at s) 0 (adjacencies n) (record { 0 = now }) outside (tick_outside_fine c n (unread_at s) 0 0 n.peers (record { 0 = now }) g (under, omega arith)) in
        fine 0 (events.tick Pin Segment c n open_of t s) (y.0, plain (heard after.deeds) y.1)
      where
        plain : (d : ℕ) → d ≤ 0 → 0 + d ≤ 0
        plain d le = omega (arith, le)

    drain_moves : (i holder : ℕ) → Moves s 0 (events.drain Pin Segment c n open_of i holder s)
    drain_moves i holder = go (s.accesses i).connection
      where
        go : (o : Option Connection) → Moves s 0 (events.drain_open Pin Segment c n open_of i holder s o)
        go None = still s 0 _ refl refl
        go (Some x) = pick s 0 (x.holder == holder) _ _ (fine 0 _ (access_kept c n (unread_at s) i drained s (λ k. omega arith) under, omega arith)) (still s 0 _ refl refl)

    -- ---- any event

    same_moves : (w : ℕ) (h k : Happened) → k ≡ h → Moves s w h → Moves s w k
    same_moves w h k is moves = subst (Moves s w) (sym is) moves

    happens_moves : (e : Event) (h : Happened) → Happens c n s e h → Moves s (fed_by e) h
    happens_moves (event.Load d g) h is =
        same_moves 0 _ h is (pick s 0 (is_element n d) _ _ (pick s 0 (is_full (s.current d).number (s.elements d).pending.rows) _ _ (still s 0 _ refl refl) (quiet_moves s 0 _ under (omega arith))) (still s 0 _ refl refl))
    happens_moves (event.Open i holder) h is = same_moves 0 _ h is (open_moves i holder)
    happens_moves (event.Shut i) h is = same_moves 0 _ h is (shut_moves i)
    happens_moves (event.Feed i bytes) h is = same_moves (length bytes) _ h is (feed_moves i bytes)
    happens_moves (event.Take i) h is = same_moves 0 _ h is (take_moves i)
    happens_moves (event.Carry a b) h is = same_moves 0 _ h is (carry_moves a b)
    happens_moves (event.Break a b) h is = same_moves 0 _ h is (break_moves a b)
    happens_moves (event.Tick t) h is = same_moves 0 _ h is (tick_moves t.0)
    happens_moves (event.Drain i holder) h is = same_moves 0 _ h is (drain_moves i holder)
    happens_moves (event.Solve d k) h (inl none) = same_moves 0 _ h none.1 (still s 0 _ refl refl)
    happens_moves (event.Solve d k) h (inr (inl none)) = same_moves 0 _ h none.2 (still s 0 _ refl refl)
    happens_moves (event.Solve d k) h (inr (inr (inl solves))) =
        let x = solves.1 in
        let r = commit c (place n d) (k, x.held) x.down s.clock (λ b. b.segment) (job_found x.rows.source_known x.rows.target_known x.rows.best) (s.elements d) in
        same_moves 0 _ h x.is (fine 0 _ (puts_kept c n (unread_at s) d r.outputs (with_element Pin Segment c n open_of d r.element s) under, omega arith))
    happens_moves (event.Solve d k) h (inr (inr (inr solves))) =
        let x = solves.2 in
        let r = parent.commit c (k, x.held) x.answer s.parent in
        same_moves 0 _ h x.is (fine 0 _ (puts_kept c n (unread_at s) parent_as r.outputs (with_parent Pin Segment c n open_of r.parent s) under, omega arith))

  -- ---- a run

  abbrev Counted : List Entry → Plant → Type 0
  Counted es s = (k : ℕ) → heard (deeds_of c n es) + below (unread_at s) k ≤ fed_bytes es

  begun : (s : Plant) → Run c n [] s → Counted [] s
  begun s is k =
      let b = events.bare Pin Segment c n open_of first_pin in
      let y = begin_adjacencies_fine c n (λ i. 0) 0 (adjacencies n) (record { state = b; deeds = [] }) ((λ i. omega arith), omega arith) in
      plain (heard (deeds_of c n [])) (below (unread_at s) k) (below (λ i. 0) k) y.1
      (below_le (unread_at s) (λ i. 0) (subst (λ (t : Plant). (i : ℕ) → unread_at t i ≤ 0) (sym is) y.0) k) (below_none (λ i. 0) (λ i. refl) k)
    where
      plain : (d x z : ℕ) → d ≤ 0 → x ≤ z → z ≡ 0 → d + x ≤ 0
      plain d x z one two three = omega (arith, one, two, three)

  run_counted : (es : List Entry) (s : Plant) → Run c n es s → Counted es s
  run_counted [] s is = begun s is
  run_counted (e ∷ older) s run = λ k.
      let before = run_counted older run.0 run.1 in
      let h : Happened = record { answer = e.answer; state = s; deeds = e.deeds } in
      let moves : Moves run.0 (fed_by e.event) h = elim run.3 [
        | inl is ↦ happens_moves run.0 e.event h is
        | inr none ↦ same_moves run.0 (fed_by e.event) _ h none.1 (still run.0 (fed_by e.event) _ refl refl)
      ] in
      plain (heard (e.deeds ++ deeds_of c n older)) (heard e.deeds) (heard (deeds_of c n older)) (below (unread_at s) k) (fed_by e.event) (fed_bytes older)
      (heard_append e.deeds (deeds_of c n older)) (moves.bounds (heard (deeds_of c n older)) (fed_bytes older) before k)
    where
      plain : (a d d' x w m : ℕ) → a ≡ d + d' → d' + d + x ≤ m + w → a + x ≤ w + m
      plain a d d' x w m one two = omega (arith, one, two)

  pub taken_few : (es : List Entry) (s : Plant) → Run c n es s → heard (deeds_of c n es) ≤ fed_bytes es
  taken_few es s run = plain (heard (deeds_of c n es)) (fed_bytes es) (run_counted es s run 0)
    where
      plain : (d m : ℕ) → d + 0 ≤ m → d ≤ m
      plain d m one = omega (arith, one)
