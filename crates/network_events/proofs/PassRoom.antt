-- The room between events, once a member was given a message for which room was made.
use Rattle.std.proofs.Common.{◌≡◌, ◌≤◌, ℕ, suc, ◌+◌, ◌*◌, Bool, true, false, cond, is_some, Option, Some, None, List, [], ◌∷◌, ◌++◌, length, refl, ap, sym, subst, ◌∙◌, arith, inl, inr, ◌⊎◌}
use Rattle.std.specs.Prelude.{slice_get}
use Rattle.std.proofs.lemmas.Bool.{cases_Bool, eqb-true}
use Rattle.pce_common.specs.plant_model.Types.{As, Peer, Outside, Inner, Sent, NetworkParts}
use Rattle.request_table.specs.Pending.{same_peer}
use Rattle.plant_queues.specs.Messages.{Spare, total}
use Rattle.plant_queues.specs.Sents.{size_of}
use Rattle.plant_text.specs.Names.{same_as}
use Rattle.plant_text.specs.Settings.{elements_of}
use Rattle.pce_common.specs.plant_model.State.{Connection}
use Rattle.pce_common.specs.plant_model.Deeds.{element_of, with_more}
use Rattle.network_links.specs.Rooms.{Grows, room_in_all}
use Rattle.network_links.specs.Flow.{Flow, KeepsRoomAt, put_flow, room_at}
use Rattle.network_events.specs.Accounts.{Accounts, count_into, bytes_into, goes_into, queue_in, has_queue}
use Rattle.pce_common.specs.Membership.{Membership}
use Rattle.pce_common.specs.Owed.{owed, is_peer, pending_in}
use Rattle.network_events.specs.Rooms.{IsRoomy, is_live, is_talking, own_most}
use Rattle.network_events.specs.Giving.{PutsAll, RoomToPut, OnlyGrows, KeepsForLetters, RoomToGive, put_all, is_own, own_words}
use Rattle.network_events.proofs.GoLaws.{access_same, as_is, peer_is}
use Rattle.network_events.proofs.GiveLaws.{said_put}
use Rattle.network_events.proofs.LetterLaws.{keeps_grown}

-- ---- letters into one queue

one_at_most : (b : Bool) → cond {A = ℕ} b 1 0 ≤ 1
one_at_most true = omega arith
one_at_most false = omega arith

no_longer : (b : Bool) (x : ℕ) → cond b x 0 ≤ x
no_longer true x = omega arith
no_longer false x = omega arith

count_most : (a : As) (q : Peer) (ss : List Sent) → count_into a q ss ≤ length ss
count_most a q [] = omega arith
count_most a q (s ∷ ss) = omega (arith, count_most a q ss, one_at_most (goes_into a q s))

bytes_most : (a : As) (q : Peer) (ss : List Sent) → bytes_into a q ss ≤ total size_of ss
bytes_most a q [] = omega arith
bytes_most a q (s ∷ ss) = omega (arith, bytes_most a q ss, no_longer (goes_into a q s) (length s.bytes))

-- one of them goes there, or none
pub record Goes (a : As) (q : Peer) (ss : List Sent) : Type 0 where
  pub place : ℕ
  pub letter : Sent
  pub found : slice_get ss place ≡ Some letter
  pub into : goes_into a q letter ≡ true

into_case : (a : As) (q : Peer) (ss : List Sent) → Goes a q ss ⊎ ((count_into a q ss ≡ 0) × (bytes_into a q ss ≡ 0))
into_case a q [] = inr (refl, refl)
into_case a q (s ∷ ss) = go (goes_into a q s) refl (into_case a q ss)
  where
    go : (b : Bool) → goes_into a q s ≡ b → Goes a q ss ⊎ ((count_into a q ss ≡ 0) × (bytes_into a q ss ≡ 0)) →
        Goes a q (s ∷ ss) ⊎ ((cond b 1 0 + count_into a q ss ≡ 0) × (cond b (length s.bytes) 0 + bytes_into a q ss ≡ 0))
    go true is rest = inl (record { place = 0; letter = s; found = refl; into = is })
    go false is (inl more) = inl (record { place = suc more.place; letter = more.letter; found = more.found; into = more.into })
    go false is (inr none) = inr (omega (arith, none.0), omega (arith, none.1))

into_parts : (a b : Bool) → cond a b false ≡ true → (a ≡ true) × (b ≡ true)
into_parts true b e = (refl, e)
into_parts false b e = cc

into_to : (a : As) (q : Peer) (s : Sent) → goes_into a q s ≡ true → s.to ≡ q
into_to a (Outside j) s e = go s.to e
  where
    go : (to : Peer) → same_peer to (Outside j) ≡ true → to ≡ Outside j
    go (Outside i) is = ap Outside (eqb-true i j is)
    go (Inner b) is = cc
into_to a (Inner c) s e = go s.to (into_parts (same_peer s.to (Inner c)) (same_as s.from a) e).0
  where
    go : (to : Peer) → same_peer to (Inner c) ≡ true → to ≡ Inner c
    go (Outside i) is = cc
    go (Inner b) is = ap Inner (as_is b c is)

-- whose queue it is
owner : (n : NetworkParts) (f : Flow) (a at : As) (q : Peer) (s : Sent) → goes_into a q s ≡ true → s.from ≡ at → is_own n at s.to ≡ true → is_live n f a q ≡ true → at ≡ a
owner n f a at (Outside j) s e from own live =
    let to : s.to ≡ Outside j = into_to a (Outside j) s e in
    let own' : same_as (element_of n j) at ≡ true = subst (λ (p : Peer). is_own n at p ≡ true) to own in
    let is : a ≡ element_of n j = as_is a (element_of n j) (into_parts (same_as a (element_of n j)) (is_talking (f.accesses j).connection) live).0 in
    sym (is ∙ as_is (element_of n j) at own')
owner n f a at (Inner c) s e from own live = sym from ∙ as_is s.from a (into_parts (same_peer s.to (Inner c)) (same_as s.from a) e).1

nothing : (b : Bool) → cond {A = ℕ} b 0 0 ≡ 0
nothing true = refl
nothing false = refl

-- ---- room that is no less

pub record NoLess (f f' : Flow) : Type 0 where
  pub there : (at : As) (to : Peer) → Grows (room_at at to f) (room_at at to f')
  pub in_all : (at : As) (to : Peer) → Grows (room_in_all (queue_in at to f)) (room_in_all (queue_in at to f'))

pub no_less_then : (a b c : Flow) → NoLess a b → NoLess b c → NoLess a c
no_less_then a b c x y = record {
  there = λ at to. record { messages = omega (arith, (x.there at to).messages, (y.there at to).messages); bytes = omega (arith, (x.there at to).bytes, (y.there at to).bytes) };
  in_all = λ at to. record { messages = omega (arith, (x.in_all at to).messages, (y.in_all at to).messages); bytes = omega (arith, (x.in_all at to).bytes, (y.in_all at to).bytes) };
}

pub keeps_less : (at : As) (to : Peer) (m b m' b' : ℕ) (f f' : Flow) → NoLess f f' → m' ≤ m → b' ≤ b → KeepsRoomAt at to m b f → KeepsRoomAt at to m' b' f'
keeps_less at to m b m' b' f f' x less less_bytes keeps =
    let there = x.there at to in
    let in_all = x.in_all at to in
    record {
      last_words = record { messages = omega (arith, keeps.last_words.messages, there.messages, less); bytes = omega (arith, keeps.last_words.bytes, there.bytes, less_bytes) };
      first_word = record { messages = omega (arith, keeps.first_word.messages, in_all.messages, less); bytes = omega (arith, keeps.first_word.bytes, in_all.bytes, less_bytes) };
    }

pub no_less_same : (f : Flow) → NoLess f f
no_less_same f = record { there = λ at to. record { messages = omega arith; bytes = omega arith }; in_all = λ at to. record { messages = omega arith; bytes = omega arith } }

-- room that was kept, of which letters took their part
after_letters : (a : As) (q : Peer) (c b : ℕ) (o : ℕ) (ss : List Sent) (f f' : Flow) → Accounts f f' → f.said ≡ [] → f'.said ≡ ss → has_queue q f ≡ true →
    count_into a q ss ≡ c → bytes_into a q ss ≡ b → KeepsRoomAt a q (c + o) (b + 32 * o) f → KeepsRoomAt a q o (32 * o) f'
after_letters a q c b o ss f f' room none all open_now count size keeps =
    let c0 : count_into a q f.said ≡ 0 = ap (count_into a q) none in
    let b0 : bytes_into a q f.said ≡ 0 = ap (bytes_into a q) none in
    let c1 : count_into a q f'.said ≡ c = ap (count_into a q) all ∙ count in
    let b1 : bytes_into a q f'.said ≡ b = ap (bytes_into a q) all ∙ size in
    record {
      last_words = record { messages = omega (arith, keeps.last_words.messages, room.messages a q, c0, c1); bytes = omega (arith, keeps.last_words.bytes, room.bytes a q, b0, b1) };
      first_word = record { messages = omega (arith, keeps.first_word.messages, room.messages_in_all a q open_now); bytes = omega (arith, keeps.first_word.bytes, room.bytes_in_all a q open_now) };
    }

-- ---- letters change no session

pub talk_puts : (ss : List Sent) (f : Flow) (i : ℕ) → is_talking ((put_all ss f).accesses i).connection ≡ is_talking (f.accesses i).connection
talk_puts [] f i = refl
talk_puts (s ∷ ss) f i = talk_puts ss (put_flow s.from s.to s.bytes f) i ∙ one s.to
  where
    one : (to : Peer) → is_talking ((put_flow s.from to s.bytes f).accesses i).connection ≡ is_talking (f.accesses i).connection
    one (Outside j) = access_same is_talking (with_more s.bytes) j i f (λ x. refl)
    one (Inner b) = refl

live_same : (n : NetworkParts) (f f' : Flow) (a : As) (q : Peer) → ((i : ℕ) → is_talking (f'.accesses i).connection ≡ is_talking (f.accesses i).connection) → is_live n f' a q ≡ is_live n f a q
live_same n f f' a (Outside i) same = ap (λ (b : Bool). cond (same_as a (element_of n i)) b false) (same i)
live_same n f f' a (Inner b) same = refl

live_open : (n : NetworkParts) (f : Flow) (a : As) (q : Peer) → is_live n f a q ≡ true → has_queue q f ≡ true
live_open n f a (Inner b) live = refl
live_open n f a (Outside i) live = go (f.accesses i).connection (into_parts (same_as a (element_of n i)) (is_talking (f.accesses i).connection) live).1
  where
    go : (c : Option Connection) → is_talking c ≡ true → is_some c ≡ true
    go None e = cc
    go (Some x) e = refl

-- ---- a member is given a message

-- what is known of it: room was made, what came was taken, the letters were put
pub record Passing {P : Type 0} {S : Type 0} (n : NetworkParts) (at : As) (p : Peer) (more : ℕ) (letters : List Sent) (ms ms' : Membership P S) (start made taken : Flow) : Type 0 where
  pub roomy : IsRoomy n ms start
  pub own : own_words made ≡ own_most n
  pub grows : OnlyGrows start made
  pub room : RoomToGive n at p more letters ms made
  pub from : (k : ℕ) (s : Sent) → slice_get letters k ≡ Some s → s.from ≡ at
  pub no_less : NoLess made taken
  pub said : Grows made.room.said taken.room.said
  pub none : taken.said ≡ []
  pub talking : (i : ℕ) → is_talking (taken.accesses i).connection ≡ is_talking (start.accesses i).connection
  pub live : is_live n start at p ≡ true
  pub owed_more : (a : As) (q : Peer) → owed a q ms' ≤ owed a q ms + cond (same_as at a) (cond (is_peer q p) more 0) 0
  pub pending_more : pending_in (elements_of n.elements) ms' ≤ pending_in (elements_of n.elements) ms + more

module _ {P : Type 0} {S : Type 0} (n : NetworkParts) (at : As) (p : Peer) (more : ℕ) (letters : List Sent) (ms ms' : Membership P S) (start made taken : Flow) (x : Passing n at p more letters ms ms' start made taken) where
  pub pass_room : RoomToPut letters taken
  pass_room = record {
    there = λ a q. elim (into_case a q letters) [
      | inl goes ↦
          let s = goes.letter in
          let keeps : KeepsRoomAt at s.to (length letters + (owed at s.to ms + more)) (total size_of letters + 32 * (owed at s.to ms + more)) made = (x.room.others goes.place s goes.found).1 in
          let grows = x.no_less.there at s.to in
          let same : room_at a q taken ≡ room_at at s.to taken = room_is a q s goes.into (x.from goes.place s goes.found) in
          record {
            messages = omega (arith, keeps.last_words.messages, grows.messages, ap (λ (r : Spare). r.messages) same, count_most a q letters);
            bytes = omega (arith, keeps.last_words.bytes, grows.bytes, ap (λ (r : Spare). r.bytes) same, bytes_most a q letters);
          }
      | inr none ↦ record { messages = omega (arith, none.0); bytes = omega (arith, none.1) }
    ];
    said = record { messages = omega (arith, x.room.said.messages, x.said.messages); bytes = omega (arith, x.room.said.bytes, x.said.bytes) };
  }
    where
      room_is : (a : As) (q : Peer) (s : Sent) → goes_into a q s ≡ true → s.from ≡ at → room_at a q taken ≡ room_at at s.to taken
      room_is a q s into from = go q (into_to a q s into) into
        where
          go : (q' : Peer) → s.to ≡ q' → goes_into a q' s ≡ true → room_at a q' taken ≡ room_at at s.to taken
          go (Outside j) to into' = ap (λ (r : Peer). room_at at r taken) (sym to)
          go (Inner c) to into' = ap (λ (d : As). room_at d (Inner c) taken) (sym (sym from ∙ as_is s.from a (into_parts (same_peer s.to (Inner c)) (same_as s.from a) into').1)) ∙ ap (λ (r : Peer). room_at at r taken) (sym to)

  more_most : (b c : Bool) → cond b (cond c more 0) 0 ≤ more
  more_most true true = omega arith
  more_most true false = omega arith
  more_most false c = omega arith

  -- a queue in use keeps room for the letters that go there, and for what is then owed
  keeps_made : (a : As) (q : Peer) → is_live n start a q ≡ true → KeepsRoomAt a q (count_into a q letters + owed a q ms') (bytes_into a q letters + 32 * owed a q ms') made
  keeps_made a q live = elim (into_case a q letters) [
    | inl goes ↦
        let s = goes.letter in
        let others = x.room.others goes.place s goes.found in
        let is : at ≡ a = owner n start a at q s goes.into (x.from goes.place s goes.found) others.0 live in
        let to : s.to ≡ q = into_to a q s goes.into in
        let keeps : KeepsForLetters a q (length letters) (total size_of letters) more ms made =
        subst (λ (d : As). KeepsForLetters d q (length letters) (total size_of letters) more ms made) is (subst (λ (r : Peer). KeepsForLetters at r (length letters) (total size_of letters) more ms made) to others.1) in
        fewer keeps
    | inr none ↦ elim (cases_Bool (same_as at a)) [
      | inl here ↦ elim (cases_Bool (is_peer q p)) [
        | inl asker ↦
            let is : at ≡ a = as_is at a here in
            let to : p ≡ q = peer_is p q asker in
            fewer (subst (λ (d : As). KeepsForLetters d q (length letters) (total size_of letters) more ms made) is (subst (λ (r : Peer). KeepsForLetters at r (length letters) (total size_of letters) more ms made) to x.room.asker))
        | inr other ↦ as_was none (ap (λ (b : Bool). cond (same_as at a) (cond b more 0) 0) other ∙ nothing (same_as at a))
      ]
      | inr other ↦ as_was none (ap (λ (b : Bool). cond b (cond (is_peer q p) more 0) 0) other)
    ]
  ]
    where
      fewer : KeepsForLetters a q (length letters) (total size_of letters) more ms made → KeepsRoomAt a q (count_into a q letters + owed a q ms') (bytes_into a q letters + 32 * owed a q ms') made
      fewer keeps =
          let owed' = x.owed_more a q in
          let most = more_most (same_as at a) (is_peer q p) in
          keeps_less a q _ _ _ _ made made (no_less_same made) (omega (arith, count_most a q letters, owed', most)) (omega (arith, bytes_most a q letters, owed', most)) keeps

      as_was : (count_into a q letters ≡ 0) × (bytes_into a q letters ≡ 0) → cond (same_as at a) (cond (is_peer q p) more 0) 0 ≡ 0 →
          KeepsRoomAt a q (count_into a q letters + owed a q ms') (bytes_into a q letters + 32 * owed a q ms') made
      as_was none no_more =
          let owed' = x.owed_more a q in
          keeps_less a q _ _ _ _ made made (no_less_same made) (omega (arith, none.0, owed', no_more)) (omega (arith, none.1, owed', no_more))
          (keeps_grown a q (owed a q ms) (32 * owed a q ms) start made x.grows (x.roomy.answers.live a q live))

  pub pass_roomy : (end : Flow) → PutsAll letters taken end → IsRoomy n ms' end
  pass_roomy end puts = record {
    answers = record {
      live = λ a q live.
          let live0 : is_live n start a q ≡ true = sym (same a q) ∙ live in
          let live4 : is_live n taken a q ≡ true = sym (live_same n taken end a q talking) ∙ live in
          after_letters a q (count_into a q letters) (bytes_into a q letters) (owed a q ms') letters taken end puts.room x.none all (live_open n taken a q live4) refl refl
          (keeps_less a q _ _ _ _ made taken x.no_less (omega arith) (omega arith) (keeps_made a q live0));
      dead = λ a q dead. none_owed a q (sym (same a q) ∙ dead);
    };
    said = record {
      messages = omega (arith, x.room.said.messages, x.said.messages, puts.room.said, ap length x.none, x.own, x.pending_more);
      bytes = omega (arith, x.room.said.bytes, x.said.bytes, puts.room.said_bytes, ap (total size_of) x.none, x.own, x.pending_more);
    };
  }
    where
      all : end.said ≡ letters
      all = ap (λ (f : Flow). f.said) puts.kept ∙ said_put letters taken ∙ ap (λ (ss : List Sent). ss ++ letters) x.none

      talking : (i : ℕ) → is_talking (end.accesses i).connection ≡ is_talking (taken.accesses i).connection
      talking i = ap (λ (f : Flow). is_talking (f.accesses i).connection) puts.kept ∙ talk_puts letters taken i

      same : (a : As) (q : Peer) → is_live n end a q ≡ is_live n start a q
      same a q = live_same n start end a q (λ i. talking i ∙ x.talking i)

      differ : (b : Bool) → b ≡ true → b ≡ false → ⊥
      differ true e e' = cc
      differ false e e' = cc

      none_owed : (a : As) (q : Peer) → is_live n start a q ≡ false → owed a q ms' ≡ 0
      none_owed a q dead = elim (cases_Bool (same_as at a)) [
        | inl here ↦ elim (cases_Bool (is_peer q p)) [
          | inl asker ↦ absurd (differ (is_live n start a q) (subst (λ (d : As). is_live n start d q ≡ true) (as_is at a here) (subst (λ (r : Peer). is_live n start at r ≡ true) (peer_is p q asker) x.live)) dead)
          | inr other ↦ omega (arith, x.owed_more a q, x.roomy.answers.dead a q dead, ap (λ (b : Bool). cond (same_as at a) (cond b more 0) 0) other, nothing (same_as at a))
        ]
        | inr other ↦ omega (arith, x.owed_more a q, x.roomy.answers.dead a q dead, ap (λ (b : Bool). cond b (cond (is_peer q p) more 0) 0) other)
      ]

-- where memory alone grew, there is room as before
pub roomy_grown : {P : Type 0} {S : Type 0} (n : NetworkParts) (ms : Membership P S) (f f' : Flow) → OnlyGrows f f' → IsRoomy n ms f → IsRoomy n ms f'
roomy_grown n ms f f' x roomy = record {
  answers = record {
    live = λ a q live. keeps_grown a q _ _ f f' x (roomy.answers.live a q (sym (same a q) ∙ live));
    dead = λ a q dead. roomy.answers.dead a q (sym (same a q) ∙ dead);
  };
  said = record {
    messages = omega (arith, roomy.said.messages, x.said.messages, ap (λ (g : Flow). length g.said) x.same);
    bytes = omega (arith, roomy.said.bytes, x.said.bytes, ap (λ (g : Flow). total size_of g.said) x.same);
  };
}
  where
    same : (a : As) (q : Peer) → is_live n f' a q ≡ is_live n f a q
    same a q = live_same n f f' a q (λ i. ap (λ (g : Flow). is_talking (g.accesses i).connection) x.same)
