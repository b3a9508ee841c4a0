-- The room that is kept stays so, where no more is said than answers that are no longer owed and a session's own words.
use Rattle.std.proofs.Common.{◌≡◌, ◌≤◌, ◌⊎◌, ℕ, ◌+◌, ◌*◌, Bool, true, false, cond, is_some, Option, Some, None, List, [], ◌∷◌, ◌++◌, length, refl, ap, sym, subst, ◌∙◌, arith, inl, inr}
use Rattle.std.proofs.lemmas.Bool.{cases_Bool, eq-eqb}
use Rattle.pce_common.specs.plant_model.Types.{As, Peer, Outside, Inner, Sent, NetworkParts}
use Rattle.request_table.specs.Pending.{same_peer}
use Rattle.plant_queues.specs.Messages.{total}
use Rattle.plant_queues.specs.Sents.{size_of, sent_of}
use Rattle.plant_text.specs.Names.{same_as}
use Rattle.plant_text.specs.Settings.{elements_of}
use Rattle.pce_common.specs.plant_model.declared.output.Lost.{Lost}
use Rattle.pce_common.specs.plant_model.State.{Connection}
use Rattle.pce_common.specs.plant_model.Deeds.{element_of}
use Rattle.pce_common.specs.plant_model.Wire.{Bytes}
use Rattle.network_links.specs.Flow.{Flow, ClearsSaid, queue_at, KeepsRoomAt}
use Rattle.network_events.specs.Accounts.{Accounts, goes_into, count_into, bytes_into, has_queue}
use Rattle.pce_common.specs.Membership.{Membership, fallen, lost_at}
use Rattle.pce_common.specs.Owed.{is_peer, owed, pending_in}
use Rattle.network_events.specs.Telling.{count_lost, lost_bytes}
use Rattle.network_events.specs.Rooms.{KeepsAnswers, IsRoomy, is_live, is_talking, own_most, emptied}
use Rattle.network_events.specs.Roomy.{KeepsOn}
use Rattle.network_events.proofs.GoLaws.{as_is}
use Rattle.network_events.proofs.OwedLaws.{fallen_count}
use Rattle.network_events.proofs.TellLaws.{into_peer, count_first}
use Rattle.network_events.proofs.BreakLaws.{count_append, bytes_append, told, told_elsewhere, told_outside, length_both, size_both, answer_long}
use Rattle.network_events.proofs.RoomyNeeds.{lost_owed}

-- The messages that went into a queue took the place of answers that were owed
pub record Fewer (at : As) (to : Peer) (before after : ℕ) (ss : List Sent) : Type 0 where
  pub messages : count_into at to ss + after ≤ before
  pub bytes : bytes_into at to ss + 32 * after ≤ 32 * before

-- the queue has no more than one message of a session's own
pub record First (before after : ℕ) (out : List Bytes) : Type 0 where
  pub messages : length out ≤ 1
  pub bytes : total (λ (m : Bytes). length m) out ≤ 12
  pub owed : after ≤ before

-- what was said in a part of an event, with so many own words of sessions
pub record Pays {P : Type 0} {S : Type 0} (own : ℕ) (n : NetworkParts) (ms ms' : Membership P S) (f f' : Flow) (ss : List Sent) : Type 0 where
  pub room : Accounts f f'
  pub said : f'.said ≡ f.said ++ ss
  pub live : (at : As) (to : Peer) → is_live n f' at to ≡ true → is_live n f at to ≡ true
  pub answers : (at : As) (to : Peer) → is_live n f' at to ≡ true → Fewer at to (owed at to ms) (owed at to ms') ss ⊎ First (owed at to ms) (owed at to ms') (queue_at at to f') ⊎ KeepsRoomAt at to (owed at to ms') (32 * owed at to ms') f'
  pub dead : (at : As) (to : Peer) → is_live n f' at to ≡ false → owed at to ms' ≡ 0
  pub messages : length ss + pending_in (elements_of n.elements) ms' ≤ own + pending_in (elements_of n.elements) ms
  pub bytes : total size_of ss + 32 * pending_in (elements_of n.elements) ms' ≤ 12 * own + 32 * pending_in (elements_of n.elements) ms
  pub pending : pending_in (elements_of n.elements) ms' ≤ pending_in (elements_of n.elements) ms

-- a queue that is used is there
pub live_queue : (n : NetworkParts) (f : Flow) (at : As) (to : Peer) → is_live n f at to ≡ true → has_queue to f ≡ true
live_queue n f at (Inner b) live = refl
live_queue n f at (Outside i) live = go (same_as at (element_of n i)) (f.accesses i).connection live
  where
    go : (b : Bool) (c : Option Connection) → cond b (is_talking c) false ≡ true → is_some c ≡ true
    go true None e = cc
    go true (Some x) e = refl
    go false c e = cc

-- the room of one queue
pub queue_keeps : (at : As) (to : Peer) (count size count' size' : ℕ) (ss : List Sent) (f f' : Flow) → Accounts f f' → f'.said ≡ f.said ++ ss → has_queue to f ≡ true →
    count_into at to ss + count' ≤ count → bytes_into at to ss + size' ≤ size → KeepsRoomAt at to count size f → KeepsRoomAt at to count' size' f'
queue_keeps at to count size count' size' ss f f' room said there fewer smaller keeps =
    let more = ap (count_into at to) said ∙ count_append at to f.said ss in
    let larger = ap (bytes_into at to) said ∙ bytes_append at to f.said ss in
    record {
      last_words = record {
        messages = omega (arith, keeps.last_words.messages, room.messages at to, more, fewer);
        bytes = omega (arith, keeps.last_words.bytes, room.bytes at to, larger, smaller);
      };
      first_word = record {
        messages = omega (arith, keeps.first_word.messages, room.messages_in_all at to there, fewer);
        bytes = omega (arith, keeps.first_word.bytes, room.bytes_in_all at to there, smaller);
      };
    }

first_keeps : (at : As) (to : Peer) (before after : ℕ) (f f' : Flow) → Accounts f f' → has_queue to f ≡ true →
    First before after (queue_at at to f') → KeepsRoomAt at to before (32 * before) f → KeepsRoomAt at to after (32 * after) f'
first_keeps at to before after f f' room there first keeps = record {
  last_words = record {
    messages = omega (arith, keeps.first_word.messages, room.messages_in_all at to there, first.messages, first.owed);
    bytes = omega (arith, keeps.first_word.bytes, room.bytes_in_all at to there, first.bytes, first.owed);
  };
  first_word = record {
    messages = omega (arith, keeps.first_word.messages, room.messages_in_all at to there, first.owed);
    bytes = omega (arith, keeps.first_word.bytes, room.bytes_in_all at to there, first.owed);
  };
}

-- each answer is one that was owed through that queue
told_own : (at : As) (to : Peer) (ls : List Lost) → count_into at to (told at ls) ≡ count_lost (is_peer to) ls
told_own at to [] = refl
told_own at to (l ∷ ls) = go (goes_into at to (sent_of at l.to (lost_bytes l))) (same_peer l.to to) (into_peer at l.to to (lost_bytes l)) (count_first to l ls) (told_own at to ls)
  where
    go : (b c : Bool) → b ≡ c → count_lost (is_peer to) (l ∷ ls) ≡ cond c 1 0 + count_lost (is_peer to) ls → count_into at to (told at ls) ≡ count_lost (is_peer to) ls →
        cond b 1 0 + count_into at to (told at ls) ≡ count_lost (is_peer to) (l ∷ ls)
    go true true e first rest = omega (arith, first, rest)
    go false false e first rest = omega (arith, first, rest)
    go true false e first rest = cc
    go false true e first rest = cc

pub told_bytes : (at d : As) (to : Peer) (ls : List Lost) → bytes_into at to (told d ls) ≡ 32 * count_into at to (told d ls)
told_bytes at d to [] = refl
told_bytes at d to (l ∷ ls) = go (goes_into at to (sent_of d l.to (lost_bytes l))) (answer_long l) (told_bytes at d to ls)
  where
    go : (b : Bool) → length (lost_bytes l) ≡ 32 → bytes_into at to (told d ls) ≡ 32 * count_into at to (told d ls) → cond b (length (lost_bytes l)) 0 + bytes_into at to (told d ls) ≡ 32 * (cond b 1 0 + count_into at to (told d ls))
    go true long rest = omega (arith, long, rest)
    go false long rest = omega (arith, rest)

module _ {P : Type 0} {S : Type 0} (n : NetworkParts) where
  -- the room that is kept, after what was said
  pub pays_on : (own rest all : ℕ) (ms ms' : Membership P S) (f f' : Flow) (ss : List Sent) → Pays own n ms ms' f f' ss → own + rest ≤ all → KeepsOn all n ms f → KeepsOn rest n ms' f'
  pays_on own rest all ms ms' f f' ss pays some keeps = record {
    answers = record { live = live; dead = pays.dead };
    said = record {
      messages = omega (arith, some, keeps.said.messages, pays.room.said, count, pays.messages);
      bytes = omega (arith, some, keeps.said.bytes, pays.room.said_bytes, size, pays.bytes);
    };
    again = record {
      messages = omega (arith, keeps.again.messages, pays.room.said, pays.pending);
      bytes = omega (arith, keeps.again.bytes, pays.room.said_bytes, pays.pending);
    };
  }
    where
      count : length f'.said ≡ length f.said + length ss
      count = ap length pays.said ∙ length_both f.said ss

      size : total size_of f'.said ≡ total size_of f.said + total size_of ss
      size = ap (total size_of) pays.said ∙ size_both f.said ss

      live : (at : As) (to : Peer) → is_live n f' at to ≡ true → KeepsRoomAt at to (owed at to ms') (32 * owed at to ms') f'
      live at to is =
          let was = pays.live at to is in
          go (pays.answers at to is) (live_queue n f at to was) (keeps.answers.live at to was)
        where
          go : Fewer at to (owed at to ms) (owed at to ms') ss ⊎ First (owed at to ms) (owed at to ms') (queue_at at to f') ⊎ KeepsRoomAt at to (owed at to ms') (32 * owed at to ms') f' → has_queue to f ≡ true →
              KeepsRoomAt at to (owed at to ms) (32 * owed at to ms) f → KeepsRoomAt at to (owed at to ms') (32 * owed at to ms') f'
          go (inl fewer) there keeps' = queue_keeps at to (owed at to ms) (32 * owed at to ms) (owed at to ms') (32 * owed at to ms') ss f f' pays.room pays.said there fewer.messages fewer.bytes keeps'
          go (inr (inl first)) there keeps' = first_keeps at to (owed at to ms) (owed at to ms') f f' pays.room there first keeps'
          go (inr (inr now)) there keeps' = now

  -- an event that begins, and one that is over
  pub begins_keeps : (ms : Membership P S) (f f' : Flow) → ClearsSaid f f' → IsRoomy n ms f → KeepsOn (own_most n) n ms f'
  begins_keeps ms f f' clears roomy = record {
    answers = subst (λ (x : Flow). KeepsAnswers n ms x) (sym clears.kept) (record { live = live; dead = dead });
    said = record { messages = omega (arith, roomy.said.messages, clears.room.messages); bytes = omega (arith, roomy.said.bytes, clears.room.bytes) };
    again = record { messages = omega (arith, roomy.said.messages, clears.room.messages); bytes = omega (arith, roomy.said.bytes, clears.room.bytes) };
  }
    where
      f1 : Flow
      f1 = record f { said = []; room = record f.room { said = f'.room.said } }

      live : (at : As) (to : Peer) → is_live n f1 at to ≡ true → KeepsRoomAt at to (owed at to ms) (32 * owed at to ms) f1
      live at (Outside i) is = roomy.answers.live at (Outside i) is
      live at (Inner b) is = roomy.answers.live at (Inner b) is

      dead : (at : As) (to : Peer) → is_live n f1 at to ≡ false → owed at to ms ≡ 0
      dead at (Outside i) is = roomy.answers.dead at (Outside i) is
      dead at (Inner b) is = roomy.answers.dead at (Inner b) is

  pub emptied_keeps : (ms : Membership P S) (f : Flow) → IsRoomy n ms f → KeepsOn (own_most n) n ms (emptied f)
  emptied_keeps ms f roomy = begins_keeps ms f (emptied f) (record { kept = refl; room = record { messages = omega arith; bytes = omega arith } }) roomy

  pub ends_roomy : (own : ℕ) (ms : Membership P S) (f : Flow) → KeepsOn own n ms f → IsRoomy n ms f
  ends_roomy own ms f keeps = record { answers = keeps.answers; said = keeps.again }

  pub keeps_fewer : (own all : ℕ) (ms : Membership P S) (f : Flow) → own ≤ all → KeepsOn all n ms f → KeepsOn own n ms f
  keeps_fewer own all ms f some keeps = record {
    answers = keeps.answers;
    said = record { messages = omega (arith, some, keeps.said.messages); bytes = omega (arith, some, keeps.said.bytes) };
    again = keeps.again;
  }

  -- ---- what is said to a peer that lost requests

  pub told_paid : (f : Flow) (d at : As) (p to : Peer) (ms : Membership P S) → ((a : As) (q : Peer) → is_live n f a q ≡ false → owed a q ms ≡ 0) → is_live n f at to ≡ true →
      count_into at to (told d (lost_at d p ms)) + owed at to (fallen d p ms) ≤ owed at to ms
  told_paid f d at p to ms dead live = elim (cases_Bool (same_as d at)) [
    | inl hit ↦
        let is : d ≡ at = as_is d at hit in
        subst (λ (x : As). count_into x to (told d (lost_at d p ms)) + owed x to (fallen d p ms) ≤ owed x to ms) is (omega (arith, told_own d to (lost_at d p ms), lost_owed n d p to ms))
    | inr miss ↦ elsewhere to miss live
  ]
    where
      fewer : (q : Peer) → owed at q (fallen d p ms) ≤ owed at q ms
      fewer q = omega (arith, fallen_count (is_peer q) d at p ms)

      elsewhere : (q : Peer) → same_as d at ≡ false → is_live n f at q ≡ true → count_into at q (told d (lost_at d p ms)) + owed at q (fallen d p ms) ≤ owed at q ms
      elsewhere (Inner b) miss live' = omega (arith, (told_elsewhere d at b (lost_at d p ms) miss).0, fewer (Inner b))
      elsewhere (Outside i) miss live' =
          let over : is_live n f d (Outside i) ≡ false = other (same_as at (element_of n i)) (same_as d (element_of n i)) (λ x y. sym (eq-eqb d.0 at.0 (ap (λ (a : As). a.0) (as_is d (element_of n i) y ∙ sym (as_is at (element_of n i) x)))) ∙ miss) live' in
          omega (arith, (told_outside d at i (lost_at d p ms)).0, lost_owed n d p (Outside i) ms, dead d (Outside i) over, fewer (Outside i))
        where
          other : (b c : Bool) → (b ≡ true → c ≡ true → true ≡ false) → cond b (is_talking (f.accesses i).connection) false ≡ true → cond c (is_talking (f.accesses i).connection) false ≡ false
          other true true is e = absurd (let clash : true ≡ false = is refl refl in cc)
          other true false is e = refl
          other false c is e = cc
