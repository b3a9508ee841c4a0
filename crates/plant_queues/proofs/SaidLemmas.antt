-- The messages of a step, in their bytes.
use Rattle.std.proofs.Common.{◌≡◌, ℕ, zero, suc, ◌+◌, ◌-◌, ◌<◌, ◌≤◌, List, [], ◌∷◌, ◌++◌, length, take, drop, get_or, slice_get, Some, arith, refl, ◌∙◌, ap, length-drop, length-take, length-append}
use Rattle.std.proofs.lemmas.List.{take-append-le, drop-append-le}
use Rattle.std.proofs.Math.Seq.{take-length, drop-append_seam}
use Rattle.plant_queues.specs.declared.said.MessageSpan.{MessageSpan}
use Rattle.plant_queues.specs.declared.sent.Sent.{Sent}
use Rattle.plant_queues.specs.Messages.{Queued, total, IsRoomAgain}
use Rattle.plant_queues.specs.Sents.{sent_of, size_of, sents, AreInRow}

pub length-sents : (bytes : List ℕ) (places : List MessageSpan) → length (sents bytes places) ≡ length places
length-sents bytes [] = refl
length-sents bytes (p ∷ places) = ap suc (length-sents bytes places)

row_end : (low high : ℕ) (places : List MessageSpan) → AreInRow low places high → low ≤ high
row_end low high [] row = omega (arith, row)
row_end low high (p ∷ places) row = omega (arith, row.1, row_end p.end high places row.2)

piece_more : (bytes more : List ℕ) (start end : ℕ) → start ≤ end → end ≤ length bytes → take (end - start) (drop start (bytes ++ more)) ≡ take (end - start) (drop start bytes)
piece_more bytes more start end ordered within =
    let fits : end - start ≤ length (drop start bytes) = omega (arith, length-drop start bytes) in
    ap (take (end - start)) (drop-append-le start bytes more (omega arith)) ∙ take-append-le (end - start) (drop start bytes) more fits

sents_more : (low : ℕ) (bytes more : List ℕ) (places : List MessageSpan) → AreInRow low places (length bytes) → sents (bytes ++ more) places ≡ sents bytes places
sents_more low bytes more [] row = refl
sents_more low bytes more (p ∷ places) row =
    rw (piece_more bytes more p.start p.end (omega (arith, row.0, row.1)) (row_end p.end (length bytes) places row.2))
    (ap (λ r. sent_of p.from p.to (take (p.end - p.start) (drop p.start bytes)) ∷ r) (sents_more p.end bytes more places row.2))

sents_push : (bytes : List ℕ) (places : List MessageSpan) (p : MessageSpan) → sents bytes (places ++ p ∷ []) ≡ sents bytes places ++ sent_of p.from p.to (take (p.end - p.start) (drop p.start bytes)) ∷ []
sents_push bytes [] p = refl
sents_push bytes (one ∷ places) p = ap (λ r. sent_of one.from one.to (take (one.end - one.start) (drop one.start bytes)) ∷ r) (sents_push bytes places p)

AreInRow-push : (low n m : ℕ) (places : List MessageSpan) (p : MessageSpan) → AreInRow low places n → p.start ≡ n → n ≤ m → p.end ≡ m → AreInRow low (places ++ p ∷ []) m
AreInRow-push low n m [] p row start le end = (omega (arith, row), omega (arith, row), end)
AreInRow-push low n m (one ∷ places) p row start le end = (row.0, row.1, AreInRow-push one.end n m places p row.2 start le end)

pub put_in_row : (bytes more after : List ℕ) (places then : List MessageSpan) (p : MessageSpan) → AreInRow 0 places (length bytes) → after ≡ bytes ++ more → p.start ≡ length bytes → p.end ≡ length after →
    then ≡ places ++ p ∷ [] → AreInRow 0 then (length after)
put_in_row bytes more after places then p row is start end pushed =
    let long : length after ≡ length bytes + length more = ap length is ∙ length-append bytes more in
    rw pushed (AreInRow-push 0 (length bytes) (length after) places p row start (omega arith) end)

last_piece : (bytes more : List ℕ) (start end : ℕ) → start ≡ length bytes → end ≡ length bytes + length more → take (end - start) (drop start (bytes ++ more)) ≡ more
last_piece bytes more start end is ends =
    let size : end - start ≡ length more = omega arith in
    rw (size, is, drop-append_seam bytes more) (take-length more)

pub put_sent : (bytes more after : List ℕ) (places then : List MessageSpan) (p : MessageSpan) → AreInRow 0 places (length bytes) → after ≡ bytes ++ more → p.start ≡ length bytes → p.end ≡ length after →
    then ≡ places ++ p ∷ [] → sents after then ≡ sents bytes places ++ sent_of p.from p.to more ∷ []
put_sent bytes more after places then p row is start end pushed =
    let long : length after ≡ length bytes + length more = ap length is ∙ length-append bytes more in
    rw (is, pushed)
    (sents_push (bytes ++ more) places p
    ∙ ap (λ r. r ++ sent_of p.from p.to (take (p.end - p.start) (drop p.start (bytes ++ more))) ∷ []) (sents_more 0 bytes more places row)
    ∙ ap (λ m. sents bytes places ++ sent_of p.from p.to m ∷ []) (last_piece bytes more p.start p.end start (end ∙ long)))

pub sent_at : (bytes : List ℕ) (places : List MessageSpan) (k : ℕ) (d : MessageSpan) → k < length places →
    slice_get (sents bytes places) k ≡ Some (sent_of (get_or places k d).from (get_or places k d).to (take ((get_or places k d).end - (get_or places k d).start) (drop (get_or places k d).start bytes)))
sent_at bytes [] k d within = absurd (omega arith)
sent_at bytes (p ∷ places) zero d within = refl
sent_at bytes (p ∷ places) (suc k) d within = sent_at bytes places k d (omega arith)

pub within_at : (low n : ℕ) (places : List MessageSpan) (k : ℕ) (d : MessageSpan) → AreInRow low places n → k < length places → ((get_or places k d).start ≤ (get_or places k d).end) × ((get_or places k d).end ≤ n)
within_at low n [] k d row below = absurd (omega arith)
within_at low n (p ∷ places) zero d row below = (omega (arith, row.0, row.1), row_end p.end n places row.2)
within_at low n (p ∷ places) (suc k) d row below = within_at p.end n places k d row.2 (omega arith)

total-sents : (low : ℕ) (bytes : List ℕ) (places : List MessageSpan) → AreInRow low places (length bytes) → low + total size_of (sents bytes places) ≡ length bytes
total-sents low bytes [] row = omega (arith, row)
total-sents low bytes (p ∷ places) row =
    let last : p.end ≤ length bytes = row_end p.end (length bytes) places row.2 in
    omega (arith, row.0, row.1, length-take (p.end - p.start) (drop p.start bytes), length-drop p.start bytes, total-sents p.end bytes places row.2)

pub cleared_said : (old new : Queued Sent) (bytes : List ℕ) (places : List MessageSpan) → old.kept ≡ sents bytes places → AreInRow 0 places (length bytes) → new.kept ≡ [] →
    old.spare.messages + length places ≤ new.spare.messages → old.spare.bytes + length bytes ≤ new.spare.bytes → IsRoomAgain size_of old new
cleared_said old new bytes places is row none messages more = rw none (rw is (record {
  messages = omega (arith, length-sents bytes places);
  bytes = omega (arith, total-sents 0 bytes places row);
}))
