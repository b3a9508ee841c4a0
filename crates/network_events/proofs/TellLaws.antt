-- The answers of lost requests, one after the other, are what a fall sends.
use Rattle.std.proofs.Common.{◌≡◌, ◌≤◌, ℕ, ◌+◌, ◌*◌, Bool, true, false, cond, Some, None, List, [], ◌∷◌, ◌++◌, length, map, filter, refl, ap, sym, subst, ◌∙◌, arith, inl, inr, append_assoc, append-nil}
use Rattle.std.proofs.lemmas.Bool.{cases_Bool}
use Rattle.pce_common.specs.plant_model.Types.{As, Peer, Outside, Inner, Hop, Sent, NetworkParts}
use Rattle.request_table.specs.Pending.{same_peer}
use Rattle.plant_queues.specs.Messages.{Covers}
use Rattle.plant_queues.specs.Sents.{sent_of}
use Rattle.plant_text.specs.Names.{same_as, parent_as}
use Rattle.pce_common.specs.plant_model.declared.output.Lost.{Lost}
use Rattle.pce_common.specs.plant_model.Names.{set_as}
use Rattle.pce_common.specs.plant_model.Wire.{Bytes}
use Rattle.pce_common.specs.plant_model.RealWire.{wire}
use Rattle.pce_common.specs.plant_model.State.{State, said, sent_by}
use Rattle.pce_common.specs.plant_model.Deeds as deeds
use Rattle.pce_common.specs.plant_model.Deeds.{Going}
use Rattle.pce_common.specs.plant_model.Element.{lost_output, downed}
use Rattle.pce_common.specs.plant_model.Element as element
use Rattle.pce_common.specs.plant_model.Parent as parent
use Rattle.network_links.specs.Flow.{Flow, Room, Puts, put_flow, room_at}
use Rattle.network_events.specs.Accounts.{Accounts, goes_into}
use Rattle.pce_common.specs.Membership.{Membership, HandsOut, fallen, lost_at}
use Rattle.pce_common.specs.Owed.{is_peer}
use Rattle.network_events.specs.Standing.{IsAt, Here, here_of, Goes, state_of}
use Rattle.network_events.specs.Telling.{Tells, RoomToTell, tell_all, lost_bytes, count_lost}
use Rattle.network_events.proofs.GoLaws.{accounts_same, accounts_then, puts_accounts, put_case, self, as_is}

put_room : (at : As) (to : Peer) (m : Bytes) (f : Flow) (r : Room) → put_flow at to m (record f { room = r }) ≡ record (put_flow at to m f) { room = r }
put_room at (Outside i) m f r = refl
put_room at (Inner b) m f r = refl

-- room makes no difference to what is told
pub tell_room : (at : As) (ls : List Lost) (f : Flow) (r : Room) → tell_all at ls (record f { room = r }) ≡ record (tell_all at ls f) { room = r }
tell_room at [] f r = refl
tell_room at (l ∷ ls) f r = ap (tell_all at ls) (put_room at l.to (lost_bytes l) f r) ∙ tell_room at ls (put_flow at l.to (lost_bytes l) f) r

put_keeps : (at : As) (to : Peer) (m : Bytes) (f : Flow) → ((put_flow at to m f).room ≡ f.room) × ((put_flow at to m f).adjacencies ≡ f.adjacencies) × ((put_flow at to m f).peers ≡ f.peers)
put_keeps at (Outside i) m f = (refl, refl, refl)
put_keeps at (Inner b) m f = (refl, refl, refl)

tell_keeps : (at : As) (ls : List Lost) (f : Flow) → ((tell_all at ls f).adjacencies ≡ f.adjacencies) × ((tell_all at ls f).peers ≡ f.peers)
tell_keeps at [] f = (refl, refl)
tell_keeps at (l ∷ ls) f =
    let rest = tell_keeps at ls (put_flow at l.to (lost_bytes l) f) in
    let one = put_keeps at l.to (lost_bytes l) f in
    (rest.0 ∙ one.1, rest.1 ∙ one.2)

-- one more is told: what is left to be told of all is told after it
pub tell_one : (at : As) (l : Lost) (ls : List Lost) (all old new : Flow) → tell_all at (l ∷ ls) old ≡ record all { room = old.room } → Puts at l.to (lost_bytes l) old new →
    tell_all at ls new ≡ record all { room = new.room }
tell_one at l ls all old new is puts =
    ap (tell_all at ls) puts.kept ∙ tell_room at ls (put_flow at l.to (lost_bytes l) old) new.room ∙ ap (λ (f : Flow). record f { room = new.room }) is

pub into_peer : (at : As) (to q : Peer) (m : Bytes) → goes_into at q (sent_of at to m) ≡ same_peer to q
into_peer at to (Outside i) m = refl
into_peer at to (Inner b) m = ap (λ (c : Bool). cond (same_peer to (Inner b)) c false) (self at.0) ∙ plain (same_peer to (Inner b))
  where
    plain : (c : Bool) → cond c true false ≡ c
    plain true = refl
    plain false = refl

pub count_first : (q : Peer) (l : Lost) (ls : List Lost) → count_lost (is_peer q) (l ∷ ls) ≡ cond (same_peer l.to q) 1 0 + count_lost (is_peer q) ls
count_first q l ls = go (same_peer l.to q)
  where
    go : (b : Bool) → length (cond b (l ∷ filter (λ (x : Lost). is_peer q x.to) ls) (filter (λ (x : Lost). is_peer q x.to) ls)) ≡ cond b 1 0 + count_lost (is_peer q) ls
    go true = omega arith
    go false = omega arith

-- the answer takes the room that was kept for it
pub room_one : (at : As) (l : Lost) (ls : List Lost) (old new : Flow) → length (lost_bytes l) ≡ 32 → RoomToTell at (l ∷ ls) old → Puts at l.to (lost_bytes l) old new → RoomToTell at ls new
room_one at l ls old new long room puts = record {
  there = λ q.
      let case = put_case at l.to (lost_bytes l) old new puts at q in
      go (same_peer l.to q) (goes_into at q (sent_of at l.to (lost_bytes l))) (into_peer at l.to q (lost_bytes l)) q (count_first q l ls) case.messages case.bytes (room.there q);
  said = record { messages = omega (arith, room.said.messages, puts.room.said.messages); bytes = omega (arith, long, room.said.bytes, puts.room.said.bytes) };
}
  where
    go : (b c : Bool) → c ≡ b → (q : Peer) → count_lost (is_peer q) (l ∷ ls) ≡ cond b 1 0 + count_lost (is_peer q) ls →
        (room_at at q old).messages ≤ (room_at at q new).messages + cond c 1 0 → (room_at at q old).bytes ≤ (room_at at q new).bytes + cond c (length (lost_bytes l)) 0 →
        Covers (room_at at q old) (count_lost (is_peer q) (l ∷ ls)) (32 * count_lost (is_peer q) (l ∷ ls)) →
        Covers (room_at at q new) (count_lost (is_peer q) ls) (32 * count_lost (is_peer q) ls)
    go true true e q count messages bytes covers = record { messages = omega (arith, count, messages, covers.messages); bytes = omega (arith, long, count, bytes, covers.bytes) }
    go false false e q count messages bytes covers = record { messages = omega (arith, count, messages, covers.messages); bytes = omega (arith, count, bytes, covers.bytes) }
    go true false e q count messages bytes covers = cc
    go false true e q count messages bytes covers = cc

pub room_first : (at : As) (l : Lost) (ls : List Lost) (f : Flow) → RoomToTell at (l ∷ ls) f → Covers (room_at at l.to f) 1 32 × Covers f.room.said 1 32
room_first at l ls f room =
    let count = count_first l.to l ls in
    let covers = room.there l.to in
    let hit : cond {A = ℕ} (same_peer l.to l.to) 1 0 ≡ 1 = ap (λ (b : Bool). cond {A = ℕ} b 1 0) peer_self in
    let one : 1 ≤ count_lost (is_peer l.to) (l ∷ ls) = omega (arith, count, hit) in
    (record { messages = omega (arith, covers.messages); bytes = omega (arith, covers.bytes) }, record { messages = omega (arith, room.said.messages); bytes = omega (arith, room.said.bytes) })
  where
    peer_self : same_peer l.to l.to ≡ true
    peer_self = own l.to
      where
        own : (p : Peer) → same_peer p p ≡ true
        own (Outside i) = self i
        own (Inner b) = self b.0

pub said_told : (at : As) (ls : List Lost) (f : Flow) → (tell_all at ls f).said ≡ f.said ++ sent_by wire at (map lost_output ls)
said_told at [] f = sym (append-nil f.said)
said_told at (l ∷ ls) f = said_told at ls (put_flow at l.to (lost_bytes l) f) ∙ ap (λ (ss : List Sent). ss ++ sent_by wire at (map lost_output ls)) (one l.to) ∙ append_assoc f.said (sent_of at l.to (lost_bytes l) ∷ []) (sent_by wire at (map lost_output ls))
  where
    one : (to : Peer) → (put_flow at to (lost_bytes l) f).said ≡ f.said ++ sent_of at to (lost_bytes l) ∷ []
    one (Outside i) = refl
    one (Inner b) = refl

tell_room_same : (at : As) (ls : List Lost) (f : Flow) → (tell_all at ls f).room ≡ f.room
tell_room_same at [] f = refl
tell_room_same at (l ∷ ls) f = tell_room_same at ls (put_flow at l.to (lost_bytes l) f) ∙ (put_keeps at l.to (lost_bytes l) f).0

-- what has been told of the lost requests of a member, and what is left
pub record TellsOn {P : Type 0} {S : Type 0} (at : As) (start now : Here P S) : Type 0 where
  pub network : now.network ≡ start.network
  pub seen : now.seen ≡ start.seen
  pub elsewhere : (a : As) → same_as at a ≡ false → now.lost a ≡ start.lost a
  pub rest : tell_all at (now.lost at) now.flow ≡ record (tell_all at (start.lost at) start.flow) { room = now.flow.room }
  pub room : Accounts start.flow now.flow
  pub left : RoomToTell at (now.lost at) now.flow

module _ {P : Type 0} {S : Type 0} (at : As) where
  pub tells_start : (start : Here P S) → RoomToTell at (start.lost at) start.flow → TellsOn at start start
  tells_start start room = record {
    network = refl;
    seen = refl;
    elsewhere = λ a miss. refl;
    rest = ap (λ (r : Room). record (tell_all at (start.lost at) start.flow) { room = r }) (tell_room_same at (start.lost at) start.flow);
    room = accounts_same start.flow;
    left = room;
  }

  pub tells_more : (start now : Here P S) (l : Lost) (n : NetworkParts) (ms : Membership P S) (lost : As → List Lost) (f : Flow) → TellsOn at start now →
      n ≡ now.network → ms ≡ now.seen → HandsOut at now.lost (Some l) lost → length (lost_bytes l) ≡ 32 → Puts at l.to (lost_bytes l) now.flow f → TellsOn at start (here_of n ms lost f)
  tells_more start now l n ms lost f on same_n same_ms hands long puts =
      let first : now.lost at ≡ l ∷ lost at = hands.0 in
      let rest : tell_all at (l ∷ lost at) now.flow ≡ record (tell_all at (start.lost at) start.flow) { room = now.flow.room } = ap (λ (ls : List Lost). tell_all at ls now.flow) (sym first) ∙ on.rest in
      let left : RoomToTell at (l ∷ lost at) now.flow = subst (λ (ls : List Lost). RoomToTell at ls now.flow) first on.left in
      record {
        network = same_n ∙ on.network;
        seen = same_ms ∙ on.seen;
        elsewhere = λ a miss. ap (λ (ls : As → List Lost). ls a) hands.1 ∙ ap (λ (b : Bool). cond b (lost at) (now.lost a)) miss ∙ on.elsewhere a miss;
        rest = tell_one at l (lost at) (tell_all at (start.lost at) start.flow) now.flow f rest puts;
        room = accounts_then start.flow now.flow f on.room (puts_accounts at l.to (lost_bytes l) now.flow f puts);
        left = room_one at l (lost at) now.flow f long left puts;
      }

  -- all of them are told
  pub tells_end : (start now : Here P S) (lost : As → List Lost) → TellsOn at start now → HandsOut at now.lost None lost →
      ((a : As) → lost a ≡ set_as at [] start.lost a) × Tells at (start.lost at) start.flow now.flow
  tells_end start now lost on hands = (
    (λ a. ap (λ (ls : As → List Lost). ls a) hands.1 ∙ elim (cases_Bool (same_as at a)) [
      | inl hit ↦
          let same : at ≡ a = as_is at a hit in
          rw hit (subst (λ (b : As). now.lost b ≡ []) same hands.0)
      | inr miss ↦ rw miss (on.elsewhere a miss)
    ]),
    record { kept = ap (λ (ls : List Lost). tell_all at ls now.flow) (sym hands.0) ∙ on.rest; room = on.room },
  )

module _ {P : Type 0} {S : Type 0} (show : S → List Hop) (n : NetworkParts) where
  state_told : (at : As) (ls : List Lost) (ms : Membership P S) (f : Flow) → state_of ms (tell_all at ls f) ≡ deeds.puts P S wire n show at (map lost_output ls) (state_of ms f)
  state_told at [] ms f = refl
  state_told at (l ∷ ls) ms f = state_told at ls ms (put_flow at l.to (lost_bytes l) f) ∙ ap (deeds.puts P S wire n show at (map lost_output ls)) (one l.to)
    where
      one : (to : Peer) → state_of ms (put_flow at to (lost_bytes l) f) ≡ deeds.put_to P S wire n show at (lost_bytes l) (state_of ms f) to
      one (Outside i) = refl
      one (Inner b) = refl

  told_is : (at : As) (ls : List Lost) (ms : Membership P S) (f f' : Flow) → Tells at ls f f' →
      (state_of ms f' ≡ deeds.puts P S wire n show at (map lost_output ls) (state_of ms f)) × (f'.said ≡ f.said ++ sent_by wire at (map lost_output ls))
  told_is at ls ms f f' tells =
      (ap (state_of ms) tells.kept ∙ state_told at ls ms f, ap (λ (x : Flow). x.said) tells.kept ∙ said_told at ls f)

  pub goes_fall : (ms : Membership P S) (lost lost' : As → List Lost) (at : As) (p : Peer) (f f' : Flow) → (((a : As) → lost a ≡ []) → (a : As) → lost' a ≡ []) →
      Tells at (lost_at at p ms) f f' → Goes (λ k. deeds.fall P S wire k show at p) (here_of n ms lost f) (here_of n (fallen at p ms) lost' f')
  goes_fall ms lost lost' at p f f' none tells =
      let keeps = tell_keeps at (lost_at at p ms) f in
      record {
        network = refl;
        lost = none;
        adjacencies = ap (λ (x : Flow). x.adjacencies) tells.kept ∙ keeps.0;
        peers = ap (λ (x : Flow). x.peers) tells.kept ∙ keeps.1;
        room = tells.room;
        goes = λ g is. elim (cases_Bool (same_as at parent_as)) [
          | inl upper ↦ upper_falls g is upper
          | inr inner ↦ inner_falls g is inner
        ];
      }
    where
      upper_falls : (g : Going P S) → IsAt g ms f → same_as at parent_as ≡ true → IsAt (deeds.fall P S wire n show at p g) (fallen at p ms) f'
      upper_falls g is upper =
          let ls = parent.lost p ms.parent.pending.rows in
          let tells' : Tells at ls f f' = rw upper at tells in
          let told = told_is at ls (record ms { parent = (parent.downed p ms.parent).parent }) f f' tells' in
          rw upper (record {
            state = told.0 ∙ ap (λ (s : State P S). deeds.puts P S wire n show at (map lost_output (parent.lost p s.parent.pending.rows)) (deeds.with_parent P S wire n show (parent.downed p s.parent).parent s)) is.state;
            said = told.1 ∙ ap (λ (ss : List Sent). ss ++ sent_by wire at (map lost_output ls)) is.said
                ∙ ap (λ (s : State P S). said wire g.deeds ++ sent_by wire at (map lost_output (parent.lost p s.parent.pending.rows))) is.state;
          })

      inner_falls : (g : Going P S) → IsAt g ms f → same_as at parent_as ≡ false → IsAt (deeds.fall P S wire n show at p g) (fallen at p ms) f'
      inner_falls g is inner =
          let ls = element.lost p (ms.elements at).pending.rows in
          let tells' : Tells at ls f f' = rw inner at tells in
          let told = told_is at ls (record ms { elements = set_as at (downed p (ms.elements at)).element ms.elements }) f f' tells' in
          rw inner (record {
            state = told.0 ∙ ap (λ (s : State P S). deeds.puts P S wire n show at (map lost_output (element.lost p (s.elements at).pending.rows)) (deeds.with_element P S wire n show at (downed p (s.elements at)).element s)) is.state;
            said = told.1 ∙ ap (λ (ss : List Sent). ss ++ sent_by wire at (map lost_output ls)) is.said
                ∙ ap (λ (s : State P S). said wire g.deeds ++ sent_by wire at (map lost_output (element.lost p (s.elements at).pending.rows))) is.state;
          })

-- a session goes down where its lost requests are told after it
pub fall_goes : {P : Type 0} {S : Type 0} (show : S → List Hop) (n n' : NetworkParts) (ms ms' : Membership P S) (lost mid lost' : As → List Lost) (at : As) (p : Peer) (f f' : Flow) →
    n' ≡ n → ms' ≡ fallen at p ms → mid ≡ set_as at (lost_at at p ms) lost → ((a : As) → lost' a ≡ set_as at [] mid a) → Tells at (mid at) f f' →
    Goes (λ k. deeds.fall P S wire k show at p) (here_of n ms lost f) (here_of n' ms' lost' f')
fall_goes {P} {S} show n n' ms ms' lost mid lost' at p f f' same_n same_ms mids told tells =
    let hit : same_as at at ≡ true = self at.0 in
    let there : mid at ≡ lost_at at p ms = ap (λ (ls : As → List Lost). ls at) mids ∙ ap (λ (b : Bool). cond b (lost_at at p ms) (lost at)) hit in
    let tells' : Tells at (lost_at at p ms) f f' = subst (λ (ls : List Lost). Tells at ls f f') there tells in
    let all = goes_fall show n ms lost lost' at p f f' none tells' in
    subst (λ (k : NetworkParts). Goes (λ k'. deeds.fall P S wire k' show at p) (here_of n ms lost f) (here_of k ms' lost' f')) (sym same_n)
    (subst (λ (x : Membership P S). Goes (λ k'. deeds.fall P S wire k' show at p) (here_of n ms lost f) (here_of n x lost' f')) (sym same_ms) all)
  where
    none : ((a : As) → lost a ≡ []) → (a : As) → lost' a ≡ []
    none before a = told a ∙ go (same_as at a) (ap (λ (ls : As → List Lost). ls a) mids) (before a)
      where
        go : (b : Bool) → mid a ≡ cond b (lost_at at p ms) (lost a) → lost a ≡ [] → cond b [] (mid a) ≡ []
        go true is was = refl
        go false is was = is ∙ was

pub fall_tells : {P : Type 0} {S : Type 0} (at : As) (p : Peer) (ms : Membership P S) (lost mid : As → List Lost) (f f' : Flow) → mid ≡ set_as at (lost_at at p ms) lost → Tells at (mid at) f f' → Tells at (lost_at at p ms) f f'
fall_tells at p ms lost mid f f' mids tells =
    let there : mid at ≡ lost_at at p ms = ap (λ (ls : As → List Lost). ls at) mids ∙ ap (λ (b : Bool). cond b (lost_at at p ms) (lost at)) (self at.0) in
    subst (λ (ls : List Lost). Tells at ls f f') there tells
