-- The room that queues keep.
use Rattle.std.proofs.Common.{◌≡◌, ◌≤◌, ℕ, zero, suc, ◌+◌, List, [], ◌∷◌, ◌++◌, length, drop, arith, ap, ◌∙◌, length-append, length-drop}
use Rattle.plant_queues.specs.Messages.{total}
use Rattle.network_links.specs.Rooms.{Queue, Puts, room_in_all, PutLeavesRoom, FirstLeavesRoom, LessLeavesRoom}

abbrev bytes_in : List (List ℕ) → ℕ
bytes_in out = total (λ (message : List ℕ). length message) out

bytes_in-append : (out : List (List ℕ)) (message : List ℕ) → bytes_in (out ++ message ∷ []) ≡ bytes_in out + length message
bytes_in-append [] message = omega arith
bytes_in-append (m ∷ out) message = omega (arith, bytes_in-append out message)

-- a queue has no less room in all after a message was put
in_all : (message : List ℕ) (old new : Queue) → Puts message old new →
    ((room_in_all old).messages ≤ (room_in_all new).messages) × ((room_in_all old).bytes ≤ (room_in_all new).bytes)
in_all message old new puts =
    let count : length new.kept ≡ length old.kept + 1 = ap length puts.kept ∙ length-append old.kept (message ∷ []) in
    let size : bytes_in new.kept ≡ bytes_in old.kept + length message = ap bytes_in puts.kept ∙ bytes_in-append old.kept message in
    (omega (arith, count, puts.spends.messages), omega (arith, size, puts.spends.bytes))

pub put_leaves_room : PutLeavesRoom
put_leaves_room message old new messages bytes keeps puts =
    let all = in_all message old new puts in
    record {
      last_words = record { messages = omega (arith, keeps.last_words.messages, puts.spends.messages); bytes = omega (arith, keeps.last_words.bytes, puts.spends.bytes) };
      first_word = record { messages = omega (arith, keeps.first_word.messages, all.0); bytes = omega (arith, keeps.first_word.bytes, all.1) };
    }

pub first_leaves_room : FirstLeavesRoom
first_leaves_room message old new messages bytes none short keeps puts =
    let all = in_all message old new puts in
    let count : length old.kept ≡ 0 = ap length none in
    let size : bytes_in old.kept ≡ 0 = ap bytes_in none in
    record {
      last_words = record {
        messages = omega (arith, count, keeps.first_word.messages, puts.spends.messages);
        bytes = omega (arith, size, short, keeps.first_word.bytes, puts.spends.bytes);
      };
      first_word = record { messages = omega (arith, keeps.first_word.messages, all.0); bytes = omega (arith, keeps.first_word.bytes, all.1) };
    }

fewer_bytes : (count : ℕ) (out : List (List ℕ)) → bytes_in (drop count out) ≤ bytes_in out
fewer_bytes zero out = omega arith
fewer_bytes (suc count) [] = omega arith
fewer_bytes (suc count) (m ∷ out) = omega (arith, fewer_bytes count out)

pub less_leaves_room : LessLeavesRoom
less_leaves_room old new count messages bytes is frees keeps =
    let fewer : length new.kept ≤ length old.kept = omega (arith, ap length is, length-drop count old.kept) in
    let smaller : bytes_in new.kept ≤ bytes_in old.kept = rw is (fewer_bytes count old.kept) in
    record {
      last_words = record {
        messages = omega (arith, fewer, keeps.last_words.messages, frees.messages);
        bytes = omega (arith, smaller, keeps.last_words.bytes, frees.bytes);
      };
      first_word = record {
        messages = omega (arith, keeps.first_word.messages, frees.messages);
        bytes = omega (arith, keeps.first_word.bytes, frees.bytes);
      };
    }
