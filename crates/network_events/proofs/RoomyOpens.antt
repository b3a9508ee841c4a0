-- The room that is kept stays so where an outside peer opens, shuts, feeds and drains, and where the clock goes on.
use Rattle.std.proofs.Common.{◌≡◌, ◌≤◌, ℕ, ◌*◌, Bool, true, false, cond, ◌==◌, is_some, Option, Some, None, List, [], length, refl, ap, sym, subst, ◌∙◌, arith, inl, inr, append-nil}
use Rattle.std.proofs.lemmas.Bool.{cases_Bool, eqb-true}
use Rattle.pce_common.specs.plant_model.Types.{As, Tick, Peer, Outside, Inner, Hop, NetworkParts}
use Rattle.plant_queues.specs.Messages.{Spare, total}
use Rattle.plant_queues.specs.Sents.{size_of}
use Rattle.plant_text.specs.Names.{same_as, parent_as}
use Rattle.pce_common.specs.plant_model.declared.output.Lost.{Lost}
use Rattle.pce_common.specs.plant_model.Names.{set_number}
use Rattle.pce_common.specs.plant_model.RealWire.{wire}
use Rattle.pce_common.specs.plant_model.State.{Access, Connection}
use Rattle.pce_common.specs.plant_model.Deeds as deeds
use Rattle.pce_common.specs.plant_model.Deeds.{Going, element_of, on_connection}
use Rattle.pce_common.specs.plant_model.Events.{is_down, fed, drained}
use Rattle.pce_common.specs.plant_model.Wire.{Bytes}
use Rattle.network_links.specs.Ends.{fed_while_up}
use Rattle.network_links.specs.Rooms.{KeepsRoom, Frees, queue, room_in_all}
use Rattle.network_links.specs.Flow.{Flow, GrowsAt, KeepsRoomAt, change_access, just_opened, no_room, out_of, queue_at, room_at, set_access, set_room, shut}
use Rattle.network_events.specs.Accounts.{Accounts, count_into, bytes_into, queue_in, has_queue}
use Rattle.pce_common.specs.Membership.{Membership, is_member, fallen}
use Rattle.pce_common.specs.Owed.{is_peer, owed}
use Rattle.network_events.specs.Rooms.{is_live, is_talking}
use Rattle.network_events.specs.Roomy.{KeepsOn}
use Rattle.network_events.specs.Standing.{IsAt, here_of, Goes, state_of}
use Rattle.network_events.proofs.GoLaws.{self, as_is}
use Rattle.network_events.proofs.LinkLaws.{accounts_like}
use Rattle.network_events.proofs.ActLaws.{access_accounts}
use Rattle.network_events.proofs.OwedLaws.{fallen_none}
use Rattle.network_events.proofs.RoomyNeeds.{fallen_owed}
use Rattle.network_events.proofs.RoomySteps.{pays_on}
use Rattle.network_events.proofs.RoomyDeeds.{access_talks, number_miss}
use Rattle.network_events.proofs.RoomyPays.{live_like, still_pays}
use Rattle.network_events.proofs.RoomyEvents.{fall_keeps}

none_live : (b : Bool) → cond b false false ≡ true → ⊥
none_live true e = cc
none_live false e = cc

clock_accounts : (now : ℕ) (f : Flow) → Accounts f (record f { clock = now })
clock_accounts now f = accounts_like f (record f { clock = now }) rooms queues open' refl refl
  where
    rooms : (a : As) (q : Peer) → room_at a q (record f { clock = now }) ≡ room_at a q f
    rooms a (Outside i) = refl
    rooms a (Inner b) = refl

    queues : (a : As) (q : Peer) → queue_at a q (record f { clock = now }) ≡ queue_at a q f
    queues a (Outside i) = refl
    queues a (Inner b) = refl

    open' : (q : Peer) → has_queue q (record f { clock = now }) ≡ has_queue q f
    open' (Outside i) = refl
    open' (Inner b) = refl

fed_same : (piece : Bytes) (x : Connection) → ((fed_while_up piece x).out ≡ x.out) × (is_down (fed_while_up piece x).session.phase ≡ is_down x.session.phase)
fed_same piece x = go (is_down x.session.phase)
  where
    go : (b : Bool) → ((cond b x (fed wire piece x)).out ≡ x.out) × (is_down (cond b x (fed wire piece x)).session.phase ≡ is_down x.session.phase)
    go true = (refl, refl)
    go false = (refl, refl)

-- what is handed out is room again
record Freed (at : As) (q : Peer) (f f' : Flow) : Type 0 where
  messages : (room_at at q f).messages ≤ (room_at at q f').messages
  bytes : (room_at at q f).bytes ≤ (room_at at q f').bytes
  messages_in_all : (room_in_all (queue_in at q f)).messages ≤ (room_in_all (queue_in at q f')).messages
  bytes_in_all : (room_in_all (queue_in at q f)).bytes ≤ (room_in_all (queue_in at q f')).bytes
  there : has_queue q f ≡ true → has_queue q f' ≡ true

drain_freed : (i : ℕ) (x : Connection) (f f' : Flow) → (f.accesses i).connection ≡ Some x → f' ≡ record (change_access i drained f) { room = record f.room { outside = set_number i (f'.room.outside i) f.room.outside } } →
    Frees (queue x.out (f.room.outside i)) (queue [] (f'.room.outside i)) → (at : As) (q : Peer) → Freed at q f f'
drain_freed i x f f' is drains frees at (Inner b) =
    let room : f'.room.inner at b ≡ f.room.inner at b = ap (λ (y : Flow). y.room.inner at b) drains in
    let out : f'.queues at b ≡ f.queues at b = ap (λ (y : Flow). y.queues at b) drains in
    record {
      messages = omega (arith, ap (λ (s : Spare). s.messages) room);
      bytes = omega (arith, ap (λ (s : Spare). s.bytes) room);
      messages_in_all = omega (arith, ap (λ (s : Spare). s.messages) room, ap length out);
      bytes_in_all = omega (arith, ap (λ (s : Spare). s.bytes) room, ap (total (λ (m : Bytes). length m)) out);
      there = λ e. refl;
    }
drain_freed i x f f' is drains frees at (Outside j) = elim (cases_Bool (i == j)) [
  | inl hit ↦ subst (λ (k : ℕ). Freed at (Outside k) f f') (eqb-true i j hit) mine
  | inr miss ↦ theirs miss
]
  where
    mine : Freed at (Outside i) f f'
    mine =
        let acc : f'.accesses i ≡ on_connection drained (f.accesses i) = ap (λ (y : Flow). y.accesses i) drains ∙ ap (λ (b : Bool). cond b (on_connection drained (f.accesses i)) (f.accesses i)) (self i) in
        let con : (f'.accesses i).connection ≡ Some (drained x) =
        ap (λ (a : Access). a.connection) acc ∙ ap (λ (c : Option Connection). (on_connection drained (record { opened = (f.accesses i).opened; connection = c })).connection) is in
        let now : out_of (f'.accesses i).connection ≡ [] = ap out_of con in
        let was : out_of (f.accesses i).connection ≡ x.out = ap out_of is in
        record {
          messages = omega (arith, frees.messages);
          bytes = omega (arith, frees.bytes);
          messages_in_all = omega (arith, frees.messages, ap length now, ap length was);
          bytes_in_all = omega (arith, frees.bytes, ap (total (λ (m : Bytes). length m)) now, ap (total (λ (m : Bytes). length m)) was);
          there = λ e. ap is_some con;
        }

    theirs : (i == j) ≡ false → Freed at (Outside j) f f'
    theirs miss =
        let acc : f'.accesses j ≡ f.accesses j = ap (λ (y : Flow). y.accesses j) drains ∙ number_miss i j (on_connection drained (f.accesses i)) f.accesses miss in
        let room : f'.room.outside j ≡ f.room.outside j = ap (λ (y : Flow). y.room.outside j) drains ∙ number_miss i j (f'.room.outside i) f.room.outside miss in
        let out : out_of (f'.accesses j).connection ≡ out_of (f.accesses j).connection = ap (λ (a : Access). out_of a.connection) acc in
        record {
          messages = omega (arith, ap (λ (s : Spare). s.messages) room);
          bytes = omega (arith, ap (λ (s : Spare). s.bytes) room);
          messages_in_all = omega (arith, ap (λ (s : Spare). s.messages) room, ap length out);
          bytes_in_all = omega (arith, ap (λ (s : Spare). s.bytes) room, ap (total (λ (m : Bytes). length m)) out);
          there = λ e. ap (λ (a : Access). is_some a.connection) acc ∙ e;
        }

module _ {P : Type 0} {S : Type 0} (show : S → List Hop) (n : NetworkParts) where
  -- nothing is said, and the same connections are used
  pub quiet_keeps : (own : ℕ) (ms : Membership P S) (f f' : Flow) → Accounts f f' → f'.said ≡ f.said → ((i : ℕ) → is_talking (f'.accesses i).connection ≡ is_talking (f.accesses i).connection) → KeepsOn own n ms f → KeepsOn own n ms f'
  quiet_keeps own ms f f' room said same keeps =
      pays_on n 0 own own ms ms f f' [] (still_pays n ms f f' room (said ∙ sym (append-nil f.said)) (live_like n f f' same) keeps.answers.dead) (omega arith) keeps

  pub clock_keeps : (own now : ℕ) (ms : Membership P S) (f : Flow) → KeepsOn own n ms f → KeepsOn own n ms (record f { clock = now })
  clock_keeps own now ms f keeps = quiet_keeps own ms f (record f { clock = now }) (clock_accounts now f) refl (λ i. refl) keeps

  -- ---- bytes that come in

  pub feed_keeps : (own i : ℕ) (piece : Bytes) (ms : Membership P S) (f : Flow) → KeepsOn own n ms f → KeepsOn own n ms (change_access i (fed_while_up piece) f)
  feed_keeps own i piece ms f keeps =
      quiet_keeps own ms f (change_access i (fed_while_up piece) f) (access_accounts i (fed_while_up piece) f (λ x. (fed_same piece x).0)) refl
      (λ j. access_talks show n i j (fed_while_up piece) (state_of ms f) (λ x. (fed_same piece x).1)) keeps

  -- ---- a connection that shuts

  shut_dead : (own i : ℕ) (ms : Membership P S) (f : Flow) → ((at : As) → owed at (Outside i) ms ≡ 0) → KeepsOn own n ms f → KeepsOn own n ms (shut i f)
  shut_dead own i ms f none keeps = record { answers = record { live = live; dead = dead }; said = keeps.said; again = keeps.again }
    where
      closed : Access
      closed = record { opened = (f.accesses i).opened; connection = None }

      live : (at : As) (to : Peer) → is_live n (shut i f) at to ≡ true → KeepsRoomAt at to (owed at to ms) (32 * owed at to ms) (shut i f)
      live at (Inner b) is = keeps.answers.live at (Inner b) is
      live at (Outside j) is = go (i == j) is
        where
          go : (b : Bool) → cond (same_as at (element_of n j)) (is_talking (cond b closed (f.accesses j)).connection) false ≡ true →
              KeepsRoom (owed at (Outside j) ms) (32 * owed at (Outside j) ms) (queue (out_of (cond b closed (f.accesses j)).connection) (cond b no_room (f.room.outside j)))
          go true e = absurd (none_live (same_as at (element_of n j)) e)
          go false e = keeps.answers.live at (Outside j) e

      dead : (at : As) (to : Peer) → is_live n (shut i f) at to ≡ false → owed at to ms ≡ 0
      dead at (Inner b) is = keeps.answers.dead at (Inner b) is
      dead at (Outside j) is = go (i == j) (eqb-true i j) is
        where
          go : (b : Bool) → (b ≡ true → i ≡ j) → cond (same_as at (element_of n j)) (is_talking (cond b closed (f.accesses j)).connection) false ≡ false → owed at (Outside j) ms ≡ 0
          go true hit e = subst (λ (k : ℕ). owed at (Outside k) ms ≡ 0) (hit refl) (none at)
          go false hit e = keeps.answers.dead at (Outside j) e

  -- it goes down first
  pub shut_keeps : (own i : ℕ) (g : Going P S) (n' : NetworkParts) (ms ms' : Membership P S) (lost lost' : As → List Lost) (f f' : Flow) → is_member n (element_of n i) ≡ true →
      Goes (λ k. deeds.fall P S wire k show (element_of n i) (Outside i)) (here_of n ms lost f) (here_of n' ms' lost' f') → IsAt g ms f → KeepsOn own n ms f → KeepsOn own n ms' (shut i f')
  shut_keeps own i g n' ms ms' lost lost' f f' member goes is keeps =
      let falls = fall_keeps show n own e (Outside i) g n' ms ms' lost lost' f f' member goes is keeps in
      shut_dead own i ms' f' (λ at. ap (λ (x : Membership P S). owed at (Outside i) x) falls.0 ∙ none at) falls.1
    where
      e : As
      e = element_of n i

      none : (at : As) → owed at (Outside i) (fallen e (Outside i) ms) ≡ 0
      none at = elim (cases_Bool (same_as at e)) [
        | inl hit ↦ subst (λ (x : As). owed x (Outside i) (fallen e (Outside i) ms) ≡ 0) (sym (as_is at e hit)) (fallen_none (is_peer (Outside i)) e (Outside i) ms (λ q miss. miss)).0
        | inr miss ↦ omega (arith, keeps.answers.dead at (Outside i) (ap (λ (b : Bool). cond b (is_talking (f.accesses i).connection) false) miss), fallen_owed n e at (Outside i) (Outside i) ms)
      ]

  -- ---- bytes that are handed out

  pub drain_keeps : (own i : ℕ) (x : Connection) (ms : Membership P S) (f f' : Flow) → (f.accesses i).connection ≡ Some x → f' ≡ record (change_access i drained f) { room = record f.room { outside = set_number i (f'.room.outside i) f.room.outside } } →
      Frees (queue x.out (f.room.outside i)) (queue [] (f'.room.outside i)) → KeepsOn own n ms f → KeepsOn own n ms f'
  drain_keeps own i x ms f f' is drains frees keeps =
      quiet_keeps own ms f f' accounts said (λ j. ap (λ (y : Flow). is_talking (y.accesses j).connection) drains ∙ access_talks show n i j drained (state_of ms f) (λ y. refl)) keeps
    where
      said : f'.said ≡ f.said
      said = ap (λ (y : Flow). y.said) drains

      spare : f'.room.said ≡ f.room.said
      spare = ap (λ (y : Flow). y.room.said) drains

      freed : (at : As) (q : Peer) → Freed at q f f'
      freed at q = drain_freed i x f f' is drains frees at q

      accounts : Accounts f f'
      accounts = record {
        messages = λ at q. let free = freed at q in omega (arith, free.messages, ap (count_into at q) said);
        bytes = λ at q. let free = freed at q in omega (arith, free.bytes, ap (bytes_into at q) said);
        there = λ q e. (freed parent_as q).there e;
        messages_in_all = λ at q e. (freed at q).messages_in_all;
        bytes_in_all = λ at q e. (freed at q).bytes_in_all;
        said = omega (arith, ap length said, ap (λ (s : Spare). s.messages) spare);
        said_bytes = omega (arith, ap (total size_of) said, ap (λ (s : Spare). s.bytes) spare);
      }

  -- ---- a connection that opens

  -- its queue keeps room for what its session says of itself
  pub connect_keeps : (own i : ℕ) (holder : ℕ) (t : Tick) (ms : Membership P S) (f f1 f2 : Flow) → (f.accesses i).connection ≡ None →
      f1 ≡ record (set_access i (just_opened holder t (f.accesses i)) f) { room = set_room parent_as (Outside i) (f1.room.outside i) f.room } →
      GrowsAt (element_of n i) (Outside i) f1 f2 → KeepsRoomAt (element_of n i) (Outside i) 0 0 f2 → KeepsOn own n ms f → KeepsOn own n ms f2
  connect_keeps own i holder t ms f f1 f2 shut' connects grows room keeps = record {
    answers = record { live = live; dead = dead };
    said = record { messages = omega (arith, ap (λ (s : Spare). s.messages) spare, keeps.said.messages); bytes = omega (arith, ap (λ (s : Spare). s.bytes) spare, keeps.said.bytes) };
    again = record { messages = omega (arith, ap (λ (s : Spare). s.messages) spare, ap length said, keeps.again.messages); bytes = omega (arith, ap (λ (s : Spare). s.bytes) spare, ap (total size_of) said, keeps.again.bytes) };
  }
    where
      e : As
      e = element_of n i

      said : f2.said ≡ f.said
      said = ap (λ (y : Flow). y.said) grows.same ∙ ap (λ (y : Flow). y.said) connects

      spare : f2.room.said ≡ f.room.said
      spare = ap (λ (y : Flow). y.room.said) grows.same ∙ ap (λ (y : Flow). y.room.said) connects

      access : (j : ℕ) → (i == j) ≡ false → f2.accesses j ≡ f.accesses j
      access j miss = ap (λ (y : Flow). y.accesses j) grows.same ∙ ap (λ (y : Flow). y.accesses j) connects ∙ number_miss i j (just_opened holder t (f.accesses i)) f.accesses miss

      outside : (j : ℕ) → (i == j) ≡ false → f2.room.outside j ≡ f.room.outside j
      outside j miss =
          ap (λ (y : Flow). y.room.outside j) grows.same ∙ number_miss i j (f2.room.outside i) f1.room.outside miss
          ∙ ap (λ (y : Flow). y.room.outside j) connects ∙ number_miss i j (f1.room.outside i) f.room.outside miss

      before : (at : As) → is_live n f at (Outside i) ≡ false
      before at = ap (λ (c : Option Connection). cond (same_as at e) (is_talking c) false) shut' ∙ plain (same_as at e)
        where
          plain : (b : Bool) → cond b false false ≡ false
          plain true = refl
          plain false = refl

      live : (at : As) (to : Peer) → is_live n f2 at to ≡ true → KeepsRoomAt at to (owed at to ms) (32 * owed at to ms) f2
      live at (Inner b) is =
          let inner : f2.room.inner at b ≡ f.room.inner at b = ap (λ (y : Flow). y.room.inner at b) grows.same ∙ ap (λ (y : Flow). y.room.inner at b) connects in
          let out : f2.queues at b ≡ f.queues at b = ap (λ (y : Flow). y.queues at b) grows.same ∙ ap (λ (y : Flow). y.queues at b) connects in
          rw (inner, out) (keeps.answers.live at (Inner b) is)
      live at (Outside j) is = elim (cases_Bool (i == j)) [
        | inl hit ↦ subst (λ (k : ℕ). is_live n f2 at (Outside k) ≡ true → KeepsRoomAt at (Outside k) (owed at (Outside k) ms) (32 * owed at (Outside k) ms) f2) (eqb-true i j hit) mine is
        | inr miss ↦
            let was : is_live n f at (Outside j) ≡ true = ap (λ (a : Access). cond (same_as at (element_of n j)) (is_talking a.connection) false) (sym (access j miss)) ∙ is in
            rw (outside j miss, access j miss) (keeps.answers.live at (Outside j) was)
      ]
        where
          mine : is_live n f2 at (Outside i) ≡ true → KeepsRoomAt at (Outside i) (owed at (Outside i) ms) (32 * owed at (Outside i) ms) f2
          mine is' =
              let none = keeps.answers.dead at (Outside i) (before at) in
              rw none room

      dead : (at : As) (to : Peer) → is_live n f2 at to ≡ false → owed at to ms ≡ 0
      dead at (Inner b) is = keeps.answers.dead at (Inner b) is
      dead at (Outside j) is = elim (cases_Bool (i == j)) [
        | inl hit ↦ subst (λ (k : ℕ). owed at (Outside k) ms ≡ 0) (eqb-true i j hit) (keeps.answers.dead at (Outside i) (before at))
        | inr miss ↦ keeps.answers.dead at (Outside j) (ap (λ (a : Access). cond (same_as at (element_of n j)) (is_talking a.connection) false) (sym (access j miss)) ∙ is)
      ]
