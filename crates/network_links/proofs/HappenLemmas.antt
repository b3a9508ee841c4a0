-- What an outside peer feeds, and what it is handed out, are events of the model.
use Rattle.std.proofs.Common.{◌≡◌, ◌==◌, ℕ, Bool, true, false, not, cond, Option, Some, None, Result, Ok, Err, List, [], refl, sym, ◌∙◌, ap, inl, inr}
use Rattle.std.specs.Prelude.{◌⊎◌}
use Rattle.plant_model.specs.Types.{Hop, NetworkParts}
use Rattle.pcep_framing.specs.Frames.{joined}
use Rattle.plant_model.specs.declared.outcome.Outcome.TheVariants.{Done}
use Rattle.plant_model.specs.declared.outcome.Refused.{Refused}
use Rattle.plant_model.specs.declared.outcome.Refused.TheVariants.{NoSuchPeer, NotHolder, NoMemory}
use Rattle.plant_model.specs.Names.{set_number}
use Rattle.plant_model.specs.Wire.{Bytes, Codec}
use Rattle.plant_model.specs.RealWire.{wire}
use Rattle.plant_model.specs.State.{Connection, Access, State}
use Rattle.plant_model.specs.Deeds.{with_access, on_connection}
use Rattle.plant_model.specs.Events.{Answered, Happened, fed, is_down, takes_feed, drained, feed, feed_open, drain, drain_open, answered, idle}
use Rattle.network_links.specs.Ends.{fed_while_up}
use Rattle.network_links.specs.declared.peers.Drained.{Drained as Handed}
use Rattle.network_links.specs.Flow.{Flow, with_flow, change_access}
use Rattle.network_links.specs.Happenings.{FeedsIn, FeedsConnectionIn, FeedsOpenIn, DrainsIn, DrainsConnectionIn, DrainsHeldIn, DrainsOpenIn, done_of, drained_of, hands_of}
use Rattle.network_links.proofs.PeerLemmas.{number_same}

module _ (P : Type 0) (S : Type 0) (n : NetworkParts) (show : S → List Hop) (i : ℕ) (piece : Bytes) (old new : Flow) (s : State P S) where
  abbrev happens : Answered → Flow → Happened P S
  happens a f = record { answer = a; state = with_flow f s; deeds = [] }

  abbrev by_connection : Option Connection → Happened P S
  by_connection o = feed_open P S wire n show i piece (with_flow old s) o

  abbrev states : (ℕ → Access) → State P S
  states f = with_flow (record old { accesses = f }) s

  abbrev with_it : Option Connection → Access
  with_it o = record { opened = (old.accesses i).opened; connection = o }

  -- the state with the bytes that were fed
  fed_state : (x : Connection) → (old.accesses i).connection ≡ Some x → (b : Bool) → is_down x.session.phase ≡ b →
      cond b (with_flow old s) (with_access P S wire n show i (fed wire piece) (with_flow old s)) ≡ with_flow (change_access i (fed_while_up piece) old) s
  fed_state x is_open b is = go b is
    where
      go : (b : Bool) → is_down x.session.phase ≡ b → cond b (with_flow old s) (with_access P S wire n show i (fed wire piece) (with_flow old s)) ≡ with_flow (change_access i (fed_while_up piece) old) s
      go true down =
          let same : on_connection (fed_while_up piece) (old.accesses i) ≡ old.accesses i =
          ap (λ (o : Option Connection). on_connection (fed_while_up piece) (with_it o)) is_open
          ∙ ap (λ (d : Bool). with_it (Some (cond d x (fed wire piece x)))) down ∙ ap with_it (sym is_open) in
          ap states (sym (number_same i (on_connection (fed_while_up piece) (old.accesses i)) old.accesses same))
      go false up =
          let fed_is : on_connection (fed wire piece) (old.accesses i) ≡ on_connection (fed_while_up piece) (old.accesses i) =
          ap (λ (o : Option Connection). on_connection (fed wire piece) (with_it o)) is_open
          ∙ ap (λ (d : Bool). with_it (Some (cond d x (fed wire piece x)))) (sym up)
          ∙ sym (ap (λ (o : Option Connection). on_connection (fed_while_up piece) (with_it o)) is_open) in
          ap (λ (a : Access). states (set_number i a old.accesses)) fed_is

  abbrev FedClaim : Result (Unit {0}) Refused → Type 0
  FedClaim z = (feed P S wire n show i piece (with_flow old s) ≡ happens (done_of z) new) ⊎ ((takes_feed (old.accesses i).connection ≡ true) × (z ≡ Err NoMemory) × (new ≡ old))

  pub feed_happens : (r : Result (Unit {0}) Refused) → FeedsIn i piece old r new →
      (feed P S wire n show i piece (with_flow old s) ≡ record { answer = done_of r; state = with_flow new s; deeds = [] }) ⊎ ((takes_feed (old.accesses i).connection ≡ true) × (r ≡ Err NoMemory) × (new ≡ old))
  feed_happens r feeds = go (old.accesses i).connection refl feeds
    where
      some : (x : Connection) → (old.accesses i).connection ≡ Some x → (z : Result (Unit {0}) Refused) → FeedsOpenIn i piece x old z new → FedClaim z
      some x is (Ok u) h =
          inl (ap by_connection is
          ∙ ap (λ (t : State P S). answered P S wire n show Done (idle P S wire n show t)) (fed_state x is (is_down x.session.phase) refl)
          ∙ ap (happens (Ok Done)) (sym h.ok))
      some x is (Err why) h = inr (ap takes_feed is ∙ ap not h.over, h.err.0, h.err.1)

      go : (o : Option Connection) → (old.accesses i).connection ≡ o → FeedsConnectionIn i piece o old r new → FedClaim r
      go None is h = inl (ap by_connection is ∙ ap (happens (Err NoSuchPeer)) (sym h.1) ∙ ap (λ (z : Result (Unit {0}) Refused). happens (done_of z) new) (sym h.0))
      go (Some x) is h = some x is r h

module _ (P : Type 0) (S : Type 0) (c : Codec) (n : NetworkParts) (show : S → List Hop) (i holder : ℕ) (old new : Flow) (s : State P S) where
  abbrev hands : Result Handed Refused → Flow → Happened P S
  hands r f = record { answer = drained_of r; state = with_flow f s; deeds = hands_of i r }

  abbrev by_open : Option Connection → Happened P S
  by_open o = drain_open P S c n show i holder (with_flow old s) o

  abbrev DrainedClaim : Result Handed Refused → Type 0
  DrainedClaim z = (drain P S c n show i holder (with_flow old s) ≡ hands z new) ⊎ ((z ≡ Err NoMemory) × (new ≡ old))

  abbrev held : Connection → Bool → Happened P S
  held x b = cond b (hands (Ok (record { bytes = joined x.out; ended = is_down x.session.phase })) (change_access i drained old)) (hands (Err (NotHolder x.holder)) old)

  pub drain_happens : (r : Result Handed Refused) → DrainsIn i holder old r new →
      (drain P S c n show i holder (with_flow old s) ≡ record { answer = drained_of r; state = with_flow new s; deeds = hands_of i r }) ⊎ ((r ≡ Err NoMemory) × (new ≡ old))
  drain_happens r drains = go (old.accesses i).connection refl drains
    where
      refused : (why : Refused) → r ≡ Err why → new ≡ old → hands (Err why) old ≡ hands r new
      refused why is same = ap (hands (Err why)) (sym same) ∙ ap (λ (z : Result Handed Refused). hands z new) (sym is)

      open_held : (x : Connection) → (old.accesses i).connection ≡ Some x → (x.holder == holder) ≡ true → (z : Result Handed Refused) → DrainsOpenIn i x old z new → DrainedClaim z
      open_held x is held_is (Ok d) h =
          inl (ap by_open is ∙ ap (held x) held_is
          ∙ ap (λ (e : Handed). hands (Ok e) (change_access i drained old)) (sym h.bytes)
          ∙ ap (λ (t : State P S). let y : Happened P S = record { answer = drained_of (Ok d); state = t; deeds = hands_of i (Ok d) } in y) (sym (ap (λ (f : Flow). with_flow f s) h.ok)))
      open_held x is held_is (Err why) h = inr h.err

      by_holder : (x : Connection) → (old.accesses i).connection ≡ Some x → (b : Bool) → (x.holder == holder) ≡ b → DrainsHeldIn i b x old r new → DrainedClaim r
      by_holder x is true held_is h = open_held x is held_is r h
      by_holder x is false held_is h = inl (ap by_open is ∙ ap (held x) held_is ∙ refused (NotHolder x.holder) h.0 h.1)

      go : (o : Option Connection) → (old.accesses i).connection ≡ o → DrainsConnectionIn i holder o old r new → DrainedClaim r
      go None is h = inl (ap by_open is ∙ refused NoSuchPeer h.0 h.1)
      go (Some x) is h = by_holder x is (x.holder == holder) refl h
