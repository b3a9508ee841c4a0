-- A link that breaks has room for all that this says.
use Rattle.std.proofs.Common.{◌≡◌, ◌≤◌, ℕ, ◌+◌, ◌*◌, Bool, true, false, cond, List, [], ◌∷◌, ◌++◌, length, map, refl, ap, sym, subst, ◌∙◌, arith}
use Rattle.pce_common.specs.plant_model.Types.{As, Peer, Outside, Inner, Hop, Sent, NetworkParts}
use Rattle.pcep_session.specs.declared.actions.Own.TheVariants as own
use Rattle.request_table.specs.Pending.{same_peer}
use Rattle.plant_queues.specs.Messages.{Covers, total}
use Rattle.plant_queues.specs.Sents.{sent_of, size_of}
use Rattle.plant_text.specs.Settings.{Adjacency}
use Rattle.plant_text.specs.Names.{same_as}
use Rattle.pce_common.specs.plant_model.declared.output.Lost.{Lost}
use Rattle.pce_common.specs.plant_model.Element.{lost_output}
use Rattle.pce_common.specs.plant_model.RealWire.{wire}
use Rattle.pce_common.specs.plant_model.State.{State, sent_by}
use Rattle.pce_common.specs.plant_model.Deeds as deeds
use Rattle.pce_common.specs.plant_model.Deeds.{our_offer}
use Rattle.network_links.specs.Ends.{own_bytes}
use Rattle.network_links.specs.Links.{next_sid}
use Rattle.network_links.specs.Flow.{Flow, Room, Begins, Clears, room_at}
use Rattle.network_events.specs.Accounts.{count_into, bytes_into, goes_into}
use Rattle.pce_common.specs.Membership.{Membership, fallen, lost_at}
use Rattle.pce_common.specs.Owed.{is_peer}
use Rattle.network_events.specs.Standing.{IsAt, here_of, Goes}
use Rattle.network_events.specs.Telling.{Tells, RoomToTell, lost_bytes, count_lost}
use Rattle.network_events.specs.Breaking.{RoomToBreak}
use Rattle.network_events.proofs.GoLaws.{goes_then}
use Rattle.network_events.proofs.TellLaws.{said_told, count_first}
use Rattle.network_events.proofs.LinkLaws.{goes_begin, goes_clear}

pub count_append : (at : As) (to : Peer) (xs ys : List Sent) → count_into at to (xs ++ ys) ≡ count_into at to xs + count_into at to ys
count_append at to [] ys = omega arith
count_append at to (x ∷ xs) ys = omega (arith, count_append at to xs ys)

pub bytes_append : (at : As) (to : Peer) (xs ys : List Sent) → bytes_into at to (xs ++ ys) ≡ bytes_into at to xs + bytes_into at to ys
bytes_append at to [] ys = omega arith
bytes_append at to (x ∷ xs) ys = omega (arith, bytes_append at to xs ys)

abbrev pub told : As → List Lost → List Sent
told at ls = sent_by wire at (map lost_output ls)

-- the length of the answer to a lost request
pub answer_long : (l : Lost) → length (lost_bytes l) ≡ 32
answer_long l = refl

-- answers of one member do not go into a queue of another
miss_from : (b c : Bool) → c ≡ false → cond b c false ≡ false
miss_from true c e = e
miss_from false c e = refl

pub told_elsewhere : (at a b : As) (ls : List Lost) → same_as at a ≡ false → (count_into a (Inner b) (told at ls) ≡ 0) × (bytes_into a (Inner b) (told at ls) ≡ 0)
told_elsewhere at a b [] miss = (refl, refl)
told_elsewhere at a b (l ∷ ls) miss =
    let rest = told_elsewhere at a b ls miss in
    let not : goes_into a (Inner b) (sent_of at l.to (lost_bytes l)) ≡ false = miss_from (same_peer l.to (Inner b)) (same_as at a) miss in
    let count : cond {A = ℕ} (goes_into a (Inner b) (sent_of at l.to (lost_bytes l))) 1 0 ≡ 0 = ap (λ (x : Bool). cond {A = ℕ} x 1 0) not in
    let size : cond {A = ℕ} (goes_into a (Inner b) (sent_of at l.to (lost_bytes l))) (length (lost_bytes l)) 0 ≡ 0 = ap (λ (x : Bool). cond {A = ℕ} x (length (lost_bytes l)) 0) not in
    (omega (arith, count, rest.0), omega (arith, size, rest.1))

pub told_outside : (at a : As) (i : ℕ) (ls : List Lost) → (count_into a (Outside i) (told at ls) ≡ count_lost (is_peer (Outside i)) ls) × (bytes_into a (Outside i) (told at ls) ≡ 32 * count_lost (is_peer (Outside i)) ls)
told_outside at a i [] = (refl, refl)
told_outside at a i (l ∷ ls) =
    let rest = told_outside at a i ls in
    let first = count_first (Outside i) l ls in
    let long = answer_long l in
    (omega (arith, rest.0, first), go (same_peer l.to (Outside i)) rest.1 first long)
  where
    go : (b : Bool) → bytes_into a (Outside i) (told at ls) ≡ 32 * count_lost (is_peer (Outside i)) ls → count_lost (is_peer (Outside i)) (l ∷ ls) ≡ cond b 1 0 + count_lost (is_peer (Outside i)) ls →
        length (lost_bytes l) ≡ 32 → cond b (length (lost_bytes l)) 0 + bytes_into a (Outside i) (told at ls) ≡ 32 * count_lost (is_peer (Outside i)) (l ∷ ls)
    go true rest first long = omega (arith, rest, first, long)
    go false rest first long = omega (arith, rest, first)

pub told_length : (at : As) (ls : List Lost) → length (told at ls) ≡ length ls
told_length at [] = refl
told_length at (l ∷ ls) = omega (arith, told_length at ls)

open_long : (sid : ℕ) → length (own_bytes (own.Open (our_offer sid))) ≡ 12
open_long sid = refl

said_of : (at : As) (ls : List Lost) (f f' : Flow) → Tells at ls f f' → f'.said ≡ f.said ++ told at ls
said_of at ls f f' tells = ap (λ (x : Flow). x.said) tells.kept ∙ said_told at ls f

pub length_both : {A : Type 0} (xs ys : List A) → length (xs ++ ys) ≡ length xs + length ys
length_both [] ys = omega arith
length_both (x ∷ xs) ys = omega (arith, length_both xs ys)

pub size_both : (xs ys : List Sent) → total size_of (xs ++ ys) ≡ total size_of xs + total size_of ys
size_both [] ys = omega arith
size_both (x ∷ xs) ys = omega (arith, size_both xs ys)

pub told_size : (at : As) (ls : List Lost) → total size_of (told at ls) ≡ 32 * length ls
told_size at [] = refl
told_size at (l ∷ ls) = omega (arith, told_size at ls, answer_long l)

-- room for what is said falls by the answers alone
told_said : (at : As) (ls : List Lost) (f f' : Flow) → Tells at ls f f' →
    (f.room.said.messages ≤ f'.room.said.messages + length ls) × (f.room.said.bytes ≤ f'.room.said.bytes + 32 * length ls)
told_said at ls f f' tells =
    let is = said_of at ls f f' tells in (
      omega (arith, tells.room.said, ap length is, length_both f.said (told at ls), told_length at ls),
      omega (arith, tells.room.said_bytes, ap (total size_of) is, size_both f.said (told at ls), told_size at ls),
    )

-- the answers of what is lost at the upper end have room after those at the lower one
pub break_second : (l u : As) (one two : List Lost) (f f1 : Flow) → same_as l u ≡ false → RoomToBreak l u one two f → Tells l one f f1 → RoomToTell u two f1
break_second l u one two f f1 apart room tells = record {
  there = there;
  said = record { messages = omega (arith, (told_said l one f f1 tells).0, room.said.messages); bytes = omega (arith, (told_said l one f f1 tells).1, room.said.bytes) };
}
  where
    is : f1.said ≡ f.said ++ told l one
    is = said_of l one f f1 tells

    there : (q : Peer) → Covers (room_at u q f1) (count_lost (is_peer q) two) (32 * count_lost (is_peer q) two)
    there (Inner b) =
        let none = told_elsewhere l u b one apart in
        record {
          messages = omega (arith, tells.room.messages u (Inner b), ap (count_into u (Inner b)) is, count_append u (Inner b) f.said (told l one), none.0, (room.inner b).messages);
          bytes = omega (arith, tells.room.bytes u (Inner b), ap (bytes_into u (Inner b)) is, bytes_append u (Inner b) f.said (told l one), none.1, (room.inner b).bytes);
        }
    there (Outside i) =
        let some = told_outside l u i one in
        record {
          messages = omega (arith, tells.room.messages u (Outside i), ap (count_into u (Outside i)) is, count_append u (Outside i) f.said (told l one), some.0, (room.outside i).messages);
          bytes = omega (arith, tells.room.bytes u (Outside i), ap (bytes_into u (Outside i)) is, bytes_append u (Outside i) f.said (told l one), some.1, (room.outside i).bytes);
        }

-- both ends can say their Open
pub record CanBegin (l u : As) (f : Flow) : Type 0 where
  pub lower : Covers (f.room.inner l u) 1 12
  pub upper : Covers (f.room.inner u l) 1 12
  pub said : Covers f.room.said 2 24

pub break_begin : (l u : As) (one two : List Lost) (f f1 f2 f3 : Flow) → RoomToBreak l u one two f → Tells l one f f1 → Tells u two f1 f2 → Clears l u f2 f3 → CanBegin l u f3
break_begin l u one two f f1 f2 f3 room below above clears =
    let first = told_said l one f f1 below in
    let second = told_said u two f1 f2 above in
    record {
      lower = record {
        messages = omega (arith, room.lower_open.messages, below.room.messages_in_all l (Inner u) refl, above.room.messages_in_all l (Inner u) refl, clears.here.messages);
        bytes = omega (arith, room.lower_open.bytes, below.room.bytes_in_all l (Inner u) refl, above.room.bytes_in_all l (Inner u) refl, clears.here.bytes);
      };
      upper = record {
        messages = omega (arith, room.upper_open.messages, below.room.messages_in_all u (Inner l) refl, above.room.messages_in_all u (Inner l) refl, clears.there.messages);
        bytes = omega (arith, room.upper_open.bytes, below.room.bytes_in_all u (Inner l) refl, above.room.bytes_in_all u (Inner l) refl, clears.there.bytes);
      };
      said = record {
        messages = omega (arith, first.0, second.0, room.said.messages, ap (λ (x : Flow). x.room.said.messages) clears.kept);
        bytes = omega (arith, first.1, second.1, room.said.bytes, ap (λ (x : Flow). x.room.said.bytes) clears.kept);
      };
    }

pub begin_second : (l u : As) (sid : ℕ) (f f' : Flow) → same_as l u ≡ false → CanBegin l u f → Begins l u sid f f' → Covers (f'.room.inner u l) 1 12 × Covers f'.room.said 1 12
begin_second l u sid f f' apart can begins =
    let same : f'.room.inner u l ≡ f.room.inner u l =
    ap (λ (r : Room). r.inner u l) begins.room.elsewhere ∙ ap (λ (b : Bool). cond b (cond (same_as u l) (f'.room.inner l u) (f.room.inner u l)) (f.room.inner u l)) apart in
    let long = open_long sid in
    (rw same can.upper, record { messages = omega (arith, can.said.messages, begins.room.said.messages); bytes = omega (arith, can.said.bytes, begins.room.said.bytes, long) })

module _ {P : Type 0} {S : Type 0} (show : S → List Hop) where
  -- the whole of a break
  pub break_goes : (l u : As) (sid : ℕ) (n0 n1 n2 : NetworkParts) (m0 m1 m2 : Membership P S) (l0 l1 l2 : As → List Lost) (f0 f1 f2 f3 f4 f5 : Flow) → sid ≡ next_sid (f0.sessions l u) →
      Goes (λ n. deeds.fall P S wire n show l (Inner u)) (here_of n0 m0 l0 f0) (here_of n1 m1 l1 f1) →
      Goes (λ n. deeds.fall P S wire n show u (Inner l)) (here_of n1 m1 l1 f1) (here_of n2 m2 l2 f2) →
      Clears l u f2 f3 → Begins l u sid f3 f4 → Begins u l sid f4 f5 →
      Goes (λ n. deeds.break_adjacency P S wire n show (record { lower = l; upper = u })) (here_of n0 m0 l0 f0) (here_of n2 m2 l2 f5)
  break_goes l u sid n0 n1 n2 m0 m1 m2 l0 l1 l2 f0 f1 f2 f3 f4 f5 sid_is below above clears lower upper =
      let adjacency : Adjacency = record { lower = l; upper = u } in
      let two = goes_then (λ n. deeds.fall P S wire n show l (Inner u)) (λ n. deeds.fall P S wire n show u (Inner l)) (here_of n0 m0 l0 f0) (here_of n1 m1 l1 f1) (here_of n2 m2 l2 f2) below above in
      let three = goes_then (λ n g. deeds.fall P S wire n show u (Inner l) (deeds.fall P S wire n show l (Inner u) g)) (λ n. deeds.clear P S wire n show adjacency) (here_of n0 m0 l0 f0) (here_of n2 m2 l2 f2) (here_of n2 m2 l2 f3) two (goes_clear show n2 m2 l2 l u f2 f3 clears) in
      let four = goes_then (λ n g. deeds.clear P S wire n show adjacency (deeds.fall P S wire n show u (Inner l) (deeds.fall P S wire n show l (Inner u) g))) (λ n. deeds.begin_end P S wire n show sid l u)
      (here_of n0 m0 l0 f0) (here_of n2 m2 l2 f3) (here_of n2 m2 l2 f4) three (goes_begin show n2 m2 l2 l u sid f3 f4 lower) in
      let five = goes_then (λ n g. deeds.begin_end P S wire n show sid l u (deeds.clear P S wire n show adjacency (deeds.fall P S wire n show u (Inner l) (deeds.fall P S wire n show l (Inner u) g)))) (λ n. deeds.begin_end P S wire n show sid u l)
      (here_of n0 m0 l0 f0) (here_of n2 m2 l2 f4) (here_of n2 m2 l2 f5) four (goes_begin show n2 m2 l2 u l sid f4 f5 upper) in
      record {
        network = five.network;
        lost = five.lost;
        adjacencies = five.adjacencies;
        peers = five.peers;
        room = five.room;
        goes = λ g is. subst (λ (k : ℕ). IsAt (deeds.begin_adjacency P S wire n0 show k adjacency (deeds.clear P S wire n0 show adjacency (deeds.fall P S wire n0 show u (Inner l) (deeds.fall P S wire n0 show l (Inner u) g)))) m2 f5)
            (sid_is ∙ ap (λ (s : State P S). next_sid (s.sessions l u)) is.state) (five.goes g is);
      }

  pub break_room : (l u : As) (ms ms1 : Membership P S) (f f1 : Flow) → same_as l u ≡ false → ms1 ≡ fallen l (Inner u) ms →
      RoomToBreak l u (lost_at l (Inner u) ms) (lost_at u (Inner l) (fallen l (Inner u) ms)) f → Tells l (lost_at l (Inner u) ms) f f1 → RoomToTell u (lost_at u (Inner l) ms1) f1
  break_room l u ms ms1 f f1 apart is room tells =
      subst (λ (x : Membership P S). RoomToTell u (lost_at u (Inner l) x) f1) (sym is) (break_second l u (lost_at l (Inner u) ms) (lost_at u (Inner l) (fallen l (Inner u) ms)) f f1 apart room tells)

  pub break_can : (l u : As) (ms ms1 : Membership P S) (f f1 f2 f3 : Flow) → ms1 ≡ fallen l (Inner u) ms →
      RoomToBreak l u (lost_at l (Inner u) ms) (lost_at u (Inner l) (fallen l (Inner u) ms)) f → Tells l (lost_at l (Inner u) ms) f f1 → Tells u (lost_at u (Inner l) ms1) f1 f2 → Clears l u f2 f3 → CanBegin l u f3
  break_can l u ms ms1 f f1 f2 f3 is room below above clears =
      break_begin l u (lost_at l (Inner u) ms) (lost_at u (Inner l) (fallen l (Inner u) ms)) f f1 f2 f3 room below (subst (λ (x : Membership P S). Tells u (lost_at u (Inner l) x) f1 f2) is above) clears
