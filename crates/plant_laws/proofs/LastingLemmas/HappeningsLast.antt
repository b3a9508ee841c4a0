-- In each event that every network has, whatever a pin is and a key stands for, all jobs last.
use Rattle.std.proofs.Common.{◌≡◌, ◌≤◌, ℕ, nat_lt, Bool, true, false, cond, ◌==◌, List, [], ◌∷◌, Option, Some, None, is_some, refl, sym, subst, inl, inr, arith}
use Rattle.std.proofs.Math.Nat.{le_refl}
use Rattle.std.proofs.lemmas.Bool.{cases_Bool, ltb-true}
use Rattle.plant_model.specs.Types.{As, Hop, NetworkParts, Outside}
use Rattle.pcep_session.specs.declared.session.Input.TheVariants as input
use Rattle.plant_text.specs.Settings.{Adjacency, adjacency, adjacencies, is_linked, peer_row}
use Rattle.plant_model.specs.Wire.{Bytes, Codec}
use Rattle.plant_model.specs.Names.{set_pair}
use Rattle.plant_model.specs.State.{State, Connection, Pops}
use Rattle.plant_model.specs.Deeds as deeds
use Rattle.plant_model.specs.Deeds.{Going, element_of, input_of, with_inbox}
use Rattle.plant_model.specs.Events as events
use Rattle.plant_model.specs.Events.{Happened, is_down}
use Rattle.plant_laws.specs.Lasting.{AreInOrder, JobsLast, KeysInTime}
use Rattle.plant_laws.proofs.LastingLemmas.DeedsLast.{Lasts, stands, then_lasts, rest_lasts, fall_lasts, outside_input_lasts, inner_input_lasts, begin_adjacency_lasts, break_adjacency_lasts, tick_outside_lasts, tick_adjacencies_last, expire_lasts}

module _ {P : Type 0} {S : Type 0} where
  abbrev pub Did : State P S → Happened P S → Type 0
  Did s h = Lasts s h.state

  pub pick : (s : State P S) (b : Bool) (h k : Happened P S) → Did s h → Did s k → Did s (cond b h k)
  pick s true h k d e = d
  pick s false h k d e = e

  pub by_did : (s : State P S) (h k : Happened P S) → k ≡ h → Did s h → Did s k
  by_did s h k is did = subst (Did s) (sym is) did

  pub in_order : (s t : State P S) → AreInOrder s → Lasts s t → AreInOrder t
  in_order s t order h = record { elements = λ d. (h.elements d (order.elements d)).order; parent = (h.parent order.parent).order }

  pub last : (s t : State P S) → AreInOrder s → Lasts s t → JobsLast s t
  last s t order h = record { elements = λ d. (h.elements d (order.elements d)).last; parent = (h.parent order.parent).last }

module _ (P : Type 0) (S : Type 0) (c : Codec) (n : NetworkParts) (show : S → List Hop) where
  abbrev Moves : Type 0
  Moves = Going P S

  abbrev from : State P S → Moves
  from s = record { state = s; deeds = [] }

  -- ---- events

  pub open_did : (i holder : ℕ) (s : State P S) → Did s (events.open_peer P S c n show i holder s)
  open_did i holder s = pick s (is_some (peer_row i n.peers)) (events.open_new P S c n show i holder s (s.accesses i).connection) _ (go (s.accesses i).connection) (stands s)
    where
      go : (o : Option Connection) → Did s (events.open_new P S c n show i holder s o)
      go None =
          let t = events.connect P S c n show i holder s in
          outside_input_lasts P S c n show s i input.Begin (from t) (rest_lasts P S c n show s s t refl refl (le_refl s.clock) (stands s))
      go (Some x) = stands s

  pub shut_did : (i : ℕ) (s : State P S) → Did s (events.shut P S c n show i s)
  shut_did i s = go (s.accesses i).connection
    where
      go : (o : Option Connection) → Did s (events.shut_open P S c n show i s o)
      go None = stands s
      go (Some x) =
          let g = deeds.fall P S c n show (element_of n i) (Outside i) (from s) in
          rest_lasts P S c n show s g.state (events.set_access P S c n show i (record { opened = (s.accesses i).opened; connection = None }) g.state) refl refl (le_refl g.state.clock)
          (fall_lasts P S c n show s (element_of n i) (Outside i) (from s) (stands s))

  pub feed_did : (i : ℕ) (bytes : Bytes) (s : State P S) → Did s (events.feed P S c n show i bytes s)
  feed_did i bytes s = go (s.accesses i).connection
    where
      same : (b : Bool) (t : State P S) → Lasts s t → Lasts s (cond b s t)
      same true t h = stands s
      same false t h = h

      go : (o : Option Connection) → Did s (events.feed_open P S c n show i bytes s o)
      go None = stands s
      go (Some x) =
          let t = deeds.with_access P S c n show i (events.fed c bytes) s in
          same (is_down x.session.phase) t (rest_lasts P S c n show s s t refl refl (le_refl s.clock) (stands s))

  pub take_did : (i : ℕ) (s : State P S) → Did s (events.take P S c n show i s)
  take_did i s = go (s.accesses i).connection
    where
      item : (inbox : List (Option Bytes)) → Did s (events.take_item P S c n show i s inbox)
      item [] = stands s
      item (x ∷ rest) =
          let t = deeds.with_access P S c n show i (with_inbox rest) s in
          outside_input_lasts P S c n show s i (input_of c x) (from t) (rest_lasts P S c n show s s t refl refl (le_refl s.clock) (stands s))

      go : (o : Option Connection) → Did s (events.take_open P S c n show i s o)
      go None = stands s
      go (Some x) = item x.inbox

  pub carry_did : (a b : As) (s : State P S) → Did s (events.carry P S c n show a b s)
  carry_did a b s = pick s (is_linked n a b) (events.carry_first P S c n show a b s (s.queues a b)) _ (go (s.queues a b)) (stands s)
    where
      go : (q : List Bytes) → Did s (events.carry_first P S c n show a b s q)
      go [] = stands s
      go (x ∷ rest) =
          let g : Moves = record { state = record s { queues = set_pair a b rest s.queues }; deeds = Pops a b ∷ [] } in
          inner_input_lasts P S c n show s (adjacency a b) b a (input_of c (Some x)) g (rest_lasts P S c n show s s g.state refl refl (le_refl s.clock) (stands s))

  pub break_did : (a b : As) (s : State P S) → Did s (events.break P S c n show a b s)
  break_did a b s = pick s (is_linked n a b) _ _ (break_adjacency_lasts P S c n show s (adjacency a b) (from s) (stands s)) (stands s)

  is_later : (now t : ℕ) → now ≤ events.later now t
  is_later now t = elim (cases_Bool (nat_lt now t)) [
    | inl less ↦ rw less (omega (arith, ltb-true now t less))
    | inr more ↦ rw more (le_refl now)
  ]

  pub tick_did : (t : ℕ) (s : State P S) → Did s (events.tick P S c n show t s)
  tick_did t s =
      let now = events.later s.clock t in
      let u : State P S = record s { clock = now } in
      let h = deeds.tick_outside P S c n show 0 n.peers (record { 0 = now }) (from u) in
      let k = deeds.tick_adjacencies P S c n show (adjacencies n) (record { 0 = now }) h in
      let on : Lasts u k.state =
      tick_adjacencies_last P S c n show u (adjacencies n) (record { 0 = now }) h
      (tick_outside_lasts P S c n show u 0 n.peers (record { 0 = now }) (from u) (stands u)) in
      then_lasts s u (deeds.expire P S c n show now k).state
      (rest_lasts P S c n show s s u refl refl (is_later s.clock t) (stands s)) (expire_lasts P S c n show u now k on.clock on)

  pub drain_did : (i holder : ℕ) (s : State P S) → Did s (events.drain P S c n show i holder s)
  drain_did i holder s = go (s.accesses i).connection
    where
      go : (o : Option Connection) → Did s (events.drain_open P S c n show i holder s o)
      go None = stands s
      go (Some x) =
          pick s (x.holder == holder) _ _
          (rest_lasts P S c n show s s (deeds.with_access P S c n show i events.drained s) refl refl (le_refl s.clock) (stands s)) (stands s)

  -- ---- the beginning

  pub begun : (xs : List Adjacency) (s : State P S) (g : Moves) → Lasts s g.state → Lasts s (events.begin_adjacencies P S c n show xs g).state
  begun [] s g h = h
  begun (x ∷ xs) s g h = begun xs s (deeds.begin_adjacency P S c n show 0 x g) (begin_adjacency_lasts P S c n show s 0 x g h)

  pub opened_in_order : (first : As → P) → AreInOrder (events.opening P S c n show first).state
  opened_in_order first =
      let b = events.bare P S c n show first in
      in_order b (events.opening P S c n show first).state (record { elements = λ d. omega arith; parent = omega arith }) (begun (adjacencies n) b (from b) (stands b))

  pub opened_in_time : (first : As → P) → KeysInTime (events.opening P S c n show first).state
  opened_in_time first = let b = events.bare P S c n show first in (begun (adjacencies n) b (from b) (stands b)).keys (λ d. le_refl 0)
