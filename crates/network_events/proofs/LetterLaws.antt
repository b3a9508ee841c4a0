-- Letters, one after the other, and the room for them.
use Rattle.std.proofs.Common.{◌≡◌, ◌≤◌, ◌<◌, ℕ, zero, suc, ◌+◌, Bool, true, false, cond, ◌==◌, Some, List, [], ◌∷◌, ◌++◌, length, drop, refl, ap, sym, subst, ◌∙◌, arith, inl, inr, ◌⊎◌}
use Rattle.std.specs.Prelude.{slice_get}
use Rattle.std.specs.Option.{option_map}
use Rattle.std.proofs.lemmas.Bool.{eqb-true}
use Rattle.std.proofs.lemmas.Option.{slice_get_within}
use Rattle.pce_common.specs.plant_model.Types.{As, Peer, Outside, Inner, Sent, NetworkParts}
use Rattle.plant_queues.specs.Messages.{Spare, Covers, total}
use Rattle.plant_queues.specs.Sents.{size_of, sent_of}
use Rattle.plant_text.specs.Names.{same_as}
use Rattle.pce_common.specs.plant_model.Wire.{Bytes}
use Rattle.pce_common.specs.plant_model.declared.output.Output.{Output}
use Rattle.pce_common.specs.plant_model.RealWire.{wire}
use Rattle.pce_common.specs.plant_model.State.{sent_by}
use Rattle.network_links.specs.Rooms.{Grows}
use Rattle.network_links.specs.Flow.{Flow, Room, Puts, GrowsAt, GrowsSaid, KeepsRoomAt, put_flow, room_at, queue_at, set_room}
use Rattle.network_events.specs.Accounts.{Accounts, goes_into}
use Rattle.pce_common.specs.Membership.{Membership}
use Rattle.network_events.specs.Giving.{PutsAll, RoomToPut, OnlyGrows, KeepsForLetters, CoversWords, RoomToGive, put_all, is_own}
use Rattle.network_events.proofs.GoLaws.{accounts_same, accounts_then, puts_accounts, put_case, self, as_is}

-- ---- by their places

pub record At (xs : List Sent) (k : ℕ) : Type 0 where
  pub letter : Sent
  pub found : slice_get xs k ≡ Some letter
  pub rest : drop k xs ≡ letter ∷ drop (k + 1) xs

pub letter_at : (xs : List Sent) (k : ℕ) → k < length xs → At xs k
letter_at [] k within = absurd (omega (arith, within))
letter_at (x ∷ xs) zero within = record { letter = x; found = refl; rest = refl }
letter_at (x ∷ xs) (suc k) within =
    let a = letter_at xs k (omega (arith, within)) in
    let next : suc k + 1 ≡ suc (k + 1) = omega arith in
    record { letter = a.letter; found = a.found; rest = a.rest ∙ ap (λ (n : ℕ). a.letter ∷ drop n (x ∷ xs)) (sym next) }

some_is : {A : Type 0} (d x y : A) → Some x ≡ Some y → x ≡ y
some_is d x y e = cc

pub field_at : {A : Type 0} (f : Sent → A) (xs : List Sent) (k : ℕ) (a : At xs k) (y : A) → option_map f (slice_get xs k) ≡ Some y → f a.letter ≡ y
field_at f xs k a y e = some_is y (f a.letter) y (sym (ap (option_map f) a.found) ∙ e)

drop_all : (xs : List Sent) (k : ℕ) → length xs ≤ k → drop k xs ≡ []
drop_all [] zero e = refl
drop_all [] (suc k) e = refl
drop_all (x ∷ xs) zero e = absurd (omega (arith, e))
drop_all (x ∷ xs) (suc k) e = drop_all xs k (omega (arith, e))

-- ---- their bytes

pub total_more : (xs : List Sent) (k : ℕ) (bytes : ℕ) (m : Bytes) → k < length xs → option_map (λ (s : Sent). s.bytes) (slice_get xs k) ≡ Some m → bytes + total size_of (drop k xs) ≡ total size_of xs →
    (bytes + length m) + total size_of (drop (k + 1) xs) ≡ total size_of xs
total_more xs k bytes m within is on =
    let a = letter_at xs k within in
    let long : size_of a.letter ≡ length m = ap length (field_at (λ (s : Sent). s.bytes) xs k a m is) in
    omega (arith, on, long, ap (total size_of) a.rest)

pub total_end : (xs : List Sent) (k : ℕ) (bytes : ℕ) → length xs ≤ k → bytes + total size_of (drop k xs) ≡ total size_of xs → bytes ≡ total size_of xs
total_end xs k bytes past on = omega (arith, on, ap (total size_of) (drop_all xs k past))

pub sent_push : (at : As) (os : List Output) (o : Output) → sent_by wire at (os ++ o ∷ []) ≡ sent_by wire at os ++ sent_by wire at (o ∷ [])
sent_push at [] o = refl
sent_push at (x ∷ os) o = ap (λ (ss : List Sent). record { from = at; to = x.to; bytes = wire.text x.message } ∷ ss) (sent_push at os o)

-- the letter that is next, from where it goes, where to, and its bytes
pub letter_is : (xs : List Sent) (k : ℕ) (way : As × Peer) (m : Bytes) → k < length xs → option_map (λ (s : Sent). (s.from, s.to)) (slice_get xs k) ≡ Some way → option_map (λ (s : Sent). s.bytes) (slice_get xs k) ≡ Some m →
    drop k xs ≡ sent_of way.0 way.1 m ∷ drop (k + 1) xs
letter_is xs k way m within goes is =
    let a = letter_at xs k within in
    let ways : (a.letter.from, a.letter.to) ≡ way = field_at (λ (s : Sent). (s.from, s.to)) xs k a way goes in
    let bytes : a.letter.bytes ≡ m = field_at (λ (s : Sent). s.bytes) xs k a m is in
    a.rest ∙ ap (λ (w : As × Peer). sent_of w.0 w.1 a.letter.bytes ∷ drop (k + 1) xs) ways ∙ ap (λ (b : Bytes). sent_of way.0 way.1 b ∷ drop (k + 1) xs) bytes

-- ---- they are put

put_room : (at : As) (to : Peer) (m : Bytes) (f : Flow) (r : Room) → put_flow at to m (record f { room = r }) ≡ record (put_flow at to m f) { room = r }
put_room at (Outside i) m f r = refl
put_room at (Inner b) m f r = refl

put_keeps : (at : As) (to : Peer) (m : Bytes) (f : Flow) → ((put_flow at to m f).room ≡ f.room) × ((put_flow at to m f).adjacencies ≡ f.adjacencies) × ((put_flow at to m f).peers ≡ f.peers)
put_keeps at (Outside i) m f = (refl, refl, refl)
put_keeps at (Inner b) m f = (refl, refl, refl)

-- room makes no difference to what is put
puts_room : (ss : List Sent) (f : Flow) (r : Room) → put_all ss (record f { room = r }) ≡ record (put_all ss f) { room = r }
puts_room [] f r = refl
puts_room (s ∷ ss) f r = ap (put_all ss) (put_room s.from s.to s.bytes f r) ∙ puts_room ss (put_flow s.from s.to s.bytes f) r

pub puts_keep : (ss : List Sent) (f : Flow) → ((put_all ss f).room ≡ f.room) × ((put_all ss f).adjacencies ≡ f.adjacencies) × ((put_all ss f).peers ≡ f.peers)
puts_keep [] f = (refl, refl, refl)
puts_keep (s ∷ ss) f =
    let rest = puts_keep ss (put_flow s.from s.to s.bytes f) in
    let one = put_keeps s.from s.to s.bytes f in
    (rest.0 ∙ one.0, rest.1 ∙ one.1, rest.2 ∙ one.2)

pub record PutsOn (all : List Sent) (k : ℕ) (start now : Flow) : Type 0 where
  pub rest : put_all (drop k all) now ≡ record (put_all all start) { room = now.room }
  pub room : Accounts start now
  pub left : RoomToPut (drop k all) now

pub puts_start : (all : List Sent) (start : Flow) → RoomToPut all start → PutsOn all 0 start start
puts_start all start left = record {
  rest = ap (λ (r : Room). record (put_all all start) { room = r }) (puts_keep all start).0;
  room = accounts_same start;
  left = left;
}

goes_there : (at : As) (to : Peer) (m : Bytes) → goes_into at to (sent_of at to m) ≡ true
goes_there at (Outside i) m = self i
goes_there at (Inner b) m = ap (λ (c : Bool). cond c (same_as at at) false) (self b.0) ∙ self at.0

-- there is room for the next one
pub puts_need : (all : List Sent) (k : ℕ) (at : As) (to : Peer) (m : Bytes) (start now : Flow) → drop k all ≡ sent_of at to m ∷ drop (k + 1) all → PutsOn all k start now →
    Covers (room_at at to now) 1 (length m) × Covers now.room.said 1 (length m)
puts_need all k at to m start now next on =
    let left : RoomToPut (sent_of at to m ∷ drop (k + 1) all) now = subst (λ (ss : List Sent). RoomToPut ss now) next on.left in
    let there = left.there at to in
    let one : cond {A = ℕ} (goes_into at to (sent_of at to m)) 1 0 ≡ 1 = ap (λ (b : Bool). cond {A = ℕ} b 1 0) (goes_there at to m) in
    let long : cond {A = ℕ} (goes_into at to (sent_of at to m)) (length m) 0 ≡ length m = ap (λ (b : Bool). cond {A = ℕ} b (length m) 0) (goes_there at to m) in (
      record { messages = omega (arith, there.messages, one); bytes = omega (arith, there.bytes, long) },
      record { messages = omega (arith, left.said.messages); bytes = omega (arith, left.said.bytes) },
    )

pub puts_more : (all : List Sent) (k : ℕ) (at : As) (to : Peer) (m : Bytes) (start now f : Flow) → drop k all ≡ sent_of at to m ∷ drop (k + 1) all → PutsOn all k start now → Puts at to m now f → PutsOn all (k + 1) start f
puts_more all k at to m start now f next on puts =
    let left : RoomToPut (sent_of at to m ∷ drop (k + 1) all) now = subst (λ (ss : List Sent). RoomToPut ss now) next on.left in
    let rest : put_all (sent_of at to m ∷ drop (k + 1) all) now ≡ record (put_all all start) { room = now.room } = ap (λ (ss : List Sent). put_all ss now) (sym next) ∙ on.rest in
    record {
      rest = ap (put_all (drop (k + 1) all)) puts.kept ∙ puts_room (drop (k + 1) all) (put_flow at to m now) f.room ∙ ap (λ (x : Flow). record x { room = f.room }) rest;
      room = accounts_then start now f on.room (puts_accounts at to m now f puts);
      left = record {
        there = λ a q.
            let case = put_case at to m now f puts a q in
            let there = left.there a q in
            record { messages = omega (arith, case.messages, there.messages); bytes = omega (arith, case.bytes, there.bytes) };
        said = record { messages = omega (arith, left.said.messages, puts.room.said.messages); bytes = omega (arith, left.said.bytes, puts.room.said.bytes) };
      };
    }

pub puts_end : (all : List Sent) (k : ℕ) (start now : Flow) → length all ≤ k → PutsOn all k start now → PutsAll all start now
puts_end all k start now past on = record { kept = ap (λ (ss : List Sent). put_all ss now) (sym (drop_all all k past)) ∙ on.rest; room = on.room }

-- ---- room grows

pub grows_same : (f : Flow) → OnlyGrows f f
grows_same f = record { same = refl; there = λ at to. record { messages = omega arith; bytes = omega arith }; said = record { messages = omega arith; bytes = omega arith } }

pub grows_then : (a b c : Flow) → OnlyGrows a b → OnlyGrows b c → OnlyGrows a c
grows_then a b c x y = record {
  same = y.same ∙ ap (λ (f : Flow). record f { room = c.room }) x.same;
  there = λ at to. record { messages = omega (arith, (x.there at to).messages, (y.there at to).messages); bytes = omega (arith, (x.there at to).bytes, (y.there at to).bytes) };
  said = record { messages = omega (arith, x.said.messages, y.said.messages); bytes = omega (arith, x.said.bytes, y.said.bytes) };
}

room_in : As → Peer → Room → Spare
room_in a (Outside i) r = r.outside i
room_in a (Inner b) r = r.inner a b

as_before : (r : Spare) → Grows r r
as_before r = record { messages = omega arith; bytes = omega arith }

pub grows_at : (at : As) (to : Peer) (old new : Flow) → GrowsAt at to old new → OnlyGrows old new
grows_at at to old new x = record {
  same = x.same ∙ ap (λ (r : Room). record old { room = r }) (sym (ap (λ (f : Flow). f.room) x.same));
  there = go to x.same x.room;
  said = subst (λ (r : Room). Grows old.room.said r.said) (sym (ap (λ (f : Flow). f.room) x.same)) (said_as to);
}
  where
    said_as : (to' : Peer) → Grows old.room.said (set_room at to' (room_at at to' new) old.room).said
    said_as (Outside i) = as_before old.room.said
    said_as (Inner b) = as_before old.room.said

    pick : (b : Bool) (x' y z : Spare) → (b ≡ true → Grows z x') → (b ≡ false → Grows z y) → Grows z (cond b x' y)
    pick true x' y z hits misses = hits refl
    pick false x' y z hits misses = misses refl

    go : (to' : Peer) → new ≡ record old { room = set_room at to' (room_at at to' new) old.room } → Grows (room_at at to' old) (room_at at to' new) → (a : As) (q : Peer) → Grows (room_at a q old) (room_at a q new)
    go (Outside i) e grows a (Outside j) =
        subst (λ (f : Flow). Grows (old.room.outside j) (f.room.outside j)) (sym e)
        (pick (i == j) (new.room.outside i) (old.room.outside j) (old.room.outside j) (λ hit. subst (λ (k : ℕ). Grows (old.room.outside k) (new.room.outside i)) (eqb-true i j hit) grows) (λ miss. as_before (old.room.outside j)))
    go (Outside i) e grows a (Inner c) = subst (λ (f : Flow). Grows (old.room.inner a c) (f.room.inner a c)) (sym e) (as_before (old.room.inner a c))
    go (Inner b) e grows a (Outside j) = subst (λ (f : Flow). Grows (old.room.outside j) (f.room.outside j)) (sym e) (as_before (old.room.outside j))
    go (Inner b) e grows a (Inner c) =
        subst (λ (f : Flow). Grows (old.room.inner a c) (f.room.inner a c)) (sym e)
        (pick (same_as at a) (cond (same_as b c) (new.room.inner at b) (old.room.inner a c)) (old.room.inner a c) (old.room.inner a c)
        (λ hit. pick (same_as b c) (new.room.inner at b) (old.room.inner a c) (old.room.inner a c)
        (λ hit'. subst (λ (d : As). Grows (old.room.inner d c) (new.room.inner at b)) (as_is at a hit) (subst (λ (d : As). Grows (old.room.inner at d) (new.room.inner at b)) (as_is b c hit') grows))
        (λ miss. as_before (old.room.inner a c)))
        (λ miss. as_before (old.room.inner a c)))

pub grows_said : (old new : Flow) → GrowsSaid old new → OnlyGrows old new
grows_said old new x = record {
  same = x.same ∙ ap (λ (r : Room). record old { room = r }) (sym (ap (λ (f : Flow). f.room) x.same));
  there = λ at to. subst (λ (f : Flow). Grows (room_at at to old) (room_at at to f)) (sym x.same) (go at to);
  said = x.room;
}
  where
    go : (at : As) (to : Peer) → Grows (room_at at to old) (room_at at to (record old { room = record old.room { said = new.room.said } }))
    go at (Outside i) = as_before (old.room.outside i)
    go at (Inner b) = as_before (old.room.inner at b)

queue_same : (at : As) (to : Peer) (a : Flow) (r : Room) → queue_at at to (record a { room = r }) ≡ queue_at at to a
queue_same at (Outside i) a r = refl
queue_same at (Inner b) a r = refl

pub keeps_grown : (at : As) (to : Peer) (messages bytes : ℕ) (a b : Flow) → OnlyGrows a b → KeepsRoomAt at to messages bytes a → KeepsRoomAt at to messages bytes b
keeps_grown at to messages bytes a b x keeps =
    let same : queue_at at to b ≡ queue_at at to a = ap (queue_at at to) x.same ∙ queue_same at to a b.room in
    let grows = x.there at to in
    rw same (record {
      last_words = record { messages = omega (arith, keeps.last_words.messages, grows.messages); bytes = omega (arith, keeps.last_words.bytes, grows.bytes) };
      first_word = record { messages = omega (arith, keeps.first_word.messages, grows.messages); bytes = omega (arith, keeps.first_word.bytes, grows.bytes) };
    })

pub record KeepsOn {P : Type 0} {S : Type 0} (n : NetworkParts) (at : As) (p : Peer) (more : ℕ) (letters : List Sent) (k : ℕ) (ms : Membership P S) (start now : Flow) : Type 0 where
  pub grows : OnlyGrows start now
  pub asker : KeepsForLetters at p (length letters) (total size_of letters) more ms now
  pub said : CoversWords n (length letters) (total size_of letters) more ms now
  pub others : (j : ℕ) (s : Sent) → j < k → slice_get letters j ≡ Some s → (is_own n at s.to ≡ true) × KeepsForLetters at s.to (length letters) (total size_of letters) more ms now

module _ {P : Type 0} {S : Type 0} (n : NetworkParts) (at : As) (p : Peer) (more : ℕ) (letters : List Sent) (ms : Membership P S) where
  words_grown : (a b : Flow) → OnlyGrows a b → CoversWords n (length letters) (total size_of letters) more ms a → CoversWords n (length letters) (total size_of letters) more ms b
  words_grown a b x covers =
      let peers : b.peers ≡ a.peers = ap (λ (f : Flow). f.peers) x.same in
      let adjacencies : length b.adjacencies ≡ length a.adjacencies = ap (λ (f : Flow). length f.adjacencies) x.same in
      record { messages = omega (arith, covers.messages, x.said.messages, peers, adjacencies); bytes = omega (arith, covers.bytes, x.said.bytes, peers, adjacencies) }

  pub keeps_start : (start a b : Flow) (messages bytes : ℕ) → messages ≡ length letters → bytes ≡ total size_of letters → OnlyGrows start a → OnlyGrows a b → KeepsForLetters at p messages bytes more ms a →
      CoversWords n messages bytes more ms b → KeepsOn n at p more letters 0 ms start b
  keeps_start start a b messages bytes count size x y asker said = record {
    grows = grows_then start a b x y;
    asker = keeps_grown at p _ _ a b y (subst (λ (l : ℕ). KeepsForLetters at p (length letters) l more ms a) size (subst (λ (l : ℕ). KeepsForLetters at p l bytes more ms a) count asker));
    said = subst (λ (l : ℕ). CoversWords n (length letters) l more ms b) size (subst (λ (l : ℕ). CoversWords n l bytes more ms b) count said);
    others = λ j s within found. absurd (omega (arith, within));
  }

  pub keeps_more : (k : ℕ) (way : As × Peer) (start now f : Flow) (messages bytes : ℕ) → messages ≡ length letters → bytes ≡ total size_of letters →
      option_map (λ (s : Sent). (s.from, s.to)) (slice_get letters k) ≡ Some way → KeepsOn n at p more letters k ms start now → OnlyGrows now f → is_own n at way.1 ≡ true →
      KeepsForLetters at way.1 messages bytes more ms f → KeepsOn n at p more letters (k + 1) ms start f
  keeps_more k way start now f messages bytes count size goes on x own keeps =
      let keeps' : KeepsForLetters at way.1 (length letters) (total size_of letters) more ms f =
      subst (λ (l : ℕ). KeepsForLetters at way.1 (length letters) l more ms f) size (subst (λ (l : ℕ). KeepsForLetters at way.1 l bytes more ms f) count keeps) in
      record {
        grows = grows_then start now f on.grows x;
        asker = keeps_grown at p _ _ now f x on.asker;
        said = words_grown now f x on.said;
        others = λ j s within found. elim (nat_cases j k within) [
          | inl less ↦ let o = on.others j s less found in (o.0, keeps_grown at s.to _ _ now f x o.1)
          | inr is ↦
              let here : slice_get letters k ≡ Some s = subst (λ (i : ℕ). slice_get letters i ≡ Some s) is found in
              let ways : (s.from, s.to) ≡ way = some_is way (s.from, s.to) way (sym (ap (option_map (λ (x' : Sent). (x'.from, x'.to))) here) ∙ goes) in
              let to : way.1 ≡ s.to = sym (ap (λ (w : As × Peer). w.1) ways) in
              (subst (λ (q : Peer). is_own n at q ≡ true) to own, subst (λ (q : Peer). KeepsForLetters at q (length letters) (total size_of letters) more ms f) to keeps')
        ];
      }
    where
      nat_cases : (j i : ℕ) → j < i + 1 → (j < i) ⊎ (j ≡ i)
      nat_cases zero zero e = inr refl
      nat_cases zero (suc i) e = inl (omega arith)
      nat_cases (suc j) zero e = absurd (omega (arith, e))
      nat_cases (suc j) (suc i) e = elim (nat_cases j i (omega (arith, e))) [
        | inl less ↦ inl (omega (arith, less))
        | inr is ↦ inr (ap suc is)
      ]

  pub keeps_end : (k : ℕ) (start now : Flow) → length letters ≤ k → KeepsOn n at p more letters k ms start now → RoomToGive n at p more letters ms now
  keeps_end k start now past on = record {
    asker = on.asker;
    said = on.said;
    others = λ j s found. on.others j s (omega (arith, past, slice_get_within letters j s found)) found;
  }
