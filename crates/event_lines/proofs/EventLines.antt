-- The line of an event is a line, and says the event.
use Rattle.std.proofs.Common.{◌≡◌, ◌≢◌, ℕ, ◌-◌, ◌^◌, ◌<◌, Bool, true, false, not, cond, codes, List, [], ◌∷◌, length, Option, Some, None, refl, sym, ap, ◌∙◌, arith, slice_index, ◌==◌}
use Rattle.std.specs.Fmt.{decimal}
use Rattle.std.specs.List.{AllByRecursion}
use Rattle.dom_base.specs.declared.names.As.{As}
use Rattle.dom_base.specs.Steps.{◌>>=◌}
use Rattle.dom_base.proofs.NumeralLaws.{number_again}
use Rattle.line_text.specs.Hexadecimal.{hex_text}
use Rattle.line_text.specs.Spelling.{joined, IsLine, IsWord}
use Rattle.line_text.specs.Lines.{is_skipped}
use Rattle.line_text.specs.Words.{all_words, is_trimmed, words_of, is_blank as is_space}
use Rattle.line_text.proofs.Again.{line_again}
use Rattle.std.proofs.lemmas.Bool.{and_parts, ne_eqb}
use Rattle.plant_text.specs.declared.line.LineEvent.{LineEvent}
use Rattle.plant_text.specs.declared.line.LineEvent.TheVariants as event
use Rattle.plant_text.specs.declared.settings.NetworkParts.{NetworkParts}
use Rattle.plant_text.specs.Faults.{AreObeyed}
use Rattle.plant_text.specs.Lines.{as_in, behind, both, event_in, file_in, hex_in, line_in, number_32, number_64, only, peer_in}
use Rattle.plant_text.specs.Rules.{rules_of}
use Rattle.event_tape.specs.declared.told.Told.{Told}
use Rattle.event_tape.specs.declared.told.Told.TheVariants.{Load, Open, Shut, Receive, Take, Carry, Break, Solve, Tick, Drain}
use Rattle.event_lines.specs.EventLines.{event_words, line_of, load_name, peer_name, IsOf, LinesSayEvents}
use Rattle.event_lines.proofs.Peers.{is_peer}
use Rattle.event_lines.proofs.Words.{decimal_word, hex_again, hex_printed, hex_word, named_utf8, named_word, no_gap}

-- ---- words that are read again

as_again : (a : As) → a.0 < 2 ^ 16 → as_in (decimal a.0) ≡ Some a
as_again a small = rw (number_again a.0 (omega arith) (2 ^ 16 - 1) (omega arith)) refl

again_32 : (n : ℕ) → n < 2 ^ 32 → number_32 (decimal n) ≡ Some n
again_32 n small = number_again n (omega arith) (2 ^ 32 - 1) (omega arith)

again_64 : (n : ℕ) → n < 2 ^ 64 → number_64 (decimal n) ≡ Some n
again_64 n small = number_again n small (2 ^ 64 - 1) (omega arith)

file_again : (k : ℕ) → k < 2 ^ 64 → file_in (load_name k) ≡ Some (load_name k)
file_again k small = rw (named_utf8 k small) refl

some_length : (xs : List ℕ) → 0 < length xs → (length xs == 0) ≡ false
some_length xs some = ne_eqb (length xs) 0 (λ e. absurd (omega arith))

octets_again : (octets : List ℕ) → 0 < length octets → AllByRecursion (λ b. b < 256) octets → hex_in (hex_text octets) ≡ Some octets
octets_again octets some each =
    rw (some_length (hex_text octets) (hex_word octets some).some, no_gap (hex_text octets) (hex_printed octets), hex_again octets each) refl

-- ---- whole lines

is_true : {X : Type 0} (b : Bool) (x y : X) → cond b (Some x) None ≡ Some y → b ≡ true
is_true true x y is = refl
is_true false x y is = absurd (let no : None ≡ Some y = is in cc)

not_true : (b : Bool) → not b ≡ true → b ≡ false
not_true true e = absurd (let no : false ≡ true = e in cc)
not_true false e = refl

-- a line of words is neither blank nor a comment
not_skipped : (line : List ℕ) (words : List (List ℕ)) → words_of line ≡ Some words → 0 < length words → slice_index line 0 ≢ 35 → is_skipped line ≡ false
not_skipped [] [] is some other = absurd (omega arith)
not_skipped [] (w ∷ words) is some other = absurd (let no : Some [] ≡ Some (w ∷ words) = is in cc)
not_skipped (c ∷ line) words is some other =
    let trimmed : is_trimmed (c ∷ line) ≡ true = is_true (is_trimmed (c ∷ line)) (all_words (c ∷ line)) words is in
    let space : is_space c ≡ false = not_true (is_space c) (and_parts (not (is_space c)) (not (is_space (slice_index (c ∷ line) (length (c ∷ line) - 1)))) trimmed).0 in
    rw (space, ne_eqb c 35 other) refl

-- words that say an event, the first of which begins no comment
says : (n : NetworkParts) (words : List (List ℕ)) (e : LineEvent) → IsLine words → event_in n.peers words ≡ Some e → line_in n (joined words) ≡ Some (Some e)
says n words e line is = rw (not_skipped (joined words) words (line_again words line) line.some line.first, line_again words line, is) refl

both_again : {X Y : Type 0} (read_x : List ℕ → Option X) (read_y : List ℕ → Option Y) (a b : List ℕ) (x : X) (y : Y) → read_x a ≡ Some x → read_y b ≡ Some y → both read_x read_y (a ∷ b ∷ []) ≡ Some (x, y)
both_again read_x read_y a b x y is_x is_y = rw (is_x, is_y) refl

only_again : {X : Type 0} (read : List ℕ → Option X) (a : List ℕ) (x : X) → read a ≡ Some x → only read (a ∷ []) ≡ Some x
only_again read a x is = rw is refl

abbrev Of : {X : Type 0} → (X → LineEvent) → Option X → Option LineEvent
Of make read = read >>= λ x. Some (make x)

module _ (n : NetworkParts) (obeyed : AreObeyed (rules_of n)) where
  abbrev name : ℕ → List ℕ
  name p = peer_name n.peers p

  -- the words behind a verb, each a word
  line_with : (verb : List ℕ) (c : ℕ) (words : List (List ℕ)) → IsWord verb → AllByRecursion IsWord words → slice_index (joined (verb ∷ words)) 0 ≡ c → c ≢ 35 → IsLine (verb ∷ words)
  line_with verb c words word each at differs = record { some = omega arith; each = (word, each); first = λ same. differs (sym at ∙ same) }

  of_holder : (p h : ℕ) → p < length n.peers → h < 2 ^ 32 → both (peer_in n.peers) number_32 (name p ∷ decimal h ∷ []) ≡ Some (Some p, h)
  of_holder p h within small = both_again (peer_in n.peers) number_32 (name p) (decimal h) (Some p) h (is_peer n obeyed p within).found (again_32 h small)

  of_peer : (p : ℕ) → p < length n.peers → only (peer_in n.peers) (name p ∷ []) ≡ Some (Some p)
  of_peer p within = only_again (peer_in n.peers) (name p) (Some p) (is_peer n obeyed p within).found

  of_two : (a b : As) → a.0 < 2 ^ 16 → b.0 < 2 ^ 16 → both as_in as_in (decimal a.0 ∷ decimal b.0 ∷ []) ≡ Some (a, b)
  of_two a b small low = both_again as_in as_in (decimal a.0) (decimal b.0) a b (as_again a small) (as_again b low)

  number_word : (k : ℕ) → k < 2 ^ 32 → IsWord (decimal k)
  number_word k small = decimal_word k (omega arith)

  says_event : (k : ℕ) → k < 2 ^ 64 → (e : Told) → IsOf n e → event_in n.peers (event_words n.peers k e) ≡ Some (line_of k e)
  unfolding behind
  says_event k small (Load d g) is = ap (Of (λ p. event.Load p.0 p.1)) (both_again as_in file_in (decimal d.0) (load_name k) d (load_name k) (as_again d is) (file_again k small))
  says_event k small (Open p h) is = ap (Of (λ p. event.Open p.0 p.1)) (of_holder p h is.0 is.1)
  says_event k small (Shut p) is = ap (Of event.Shut) (of_peer p is)
  says_event k small (Receive p octets) is =
      ap (Of (λ p. event.Receive p.0 p.1))
      (both_again (peer_in n.peers) hex_in (name p) (hex_text octets) (Some p) octets (is_peer n obeyed p is.0).found (octets_again octets is.1 is.2))
  says_event k small (Take p) is = ap (Of event.Take) (of_peer p is)
  says_event k small (Carry a b) is = ap (Of (λ p. event.Carry p.0 p.1)) (of_two a b is.0 is.1)
  says_event k small (Break a b) is = ap (Of (λ p. event.Break p.0 p.1)) (of_two a b is.0 is.1)
  says_event k small (Solve d j) is = ap (Of (λ p. event.Solve p.0 p.1 [])) (both_again as_in number_64 (decimal d.0) (decimal j) d j (as_again d is.0) (again_64 j is.1))
  says_event k small (Tick t) is = ap (Of (λ n. event.Tick (record { 0 = n }))) (only_again number_64 (decimal t.0) t.0 (again_64 t.0 is))
  says_event k small (Drain p h) is = ap (Of (λ p. event.Drain p.0 p.1)) (of_holder p h is.0 is.1)

  peer_word : (p : ℕ) → p < length n.peers → IsWord (name p)
  peer_word p within = (is_peer n obeyed p within).word

  are_words : (k : ℕ) → k < 2 ^ 64 → (e : Told) → IsOf n e → IsLine (event_words n.peers k e)
  are_words k small (Load d g) is = line_with (codes "load") 108 _ (record { some = omega arith; bytes = (omega arith, (omega arith, (omega arith, (omega arith, tt)))) }) (number_word d.0 (omega arith), (named_word k small, tt)) refl (λ same. absurd (omega arith))
  are_words k small (Open p h) is = line_with (codes "open") 111 _ (record { some = omega arith; bytes = (omega arith, (omega arith, (omega arith, (omega arith, tt)))) }) (peer_word p is.0, (number_word h is.1, tt)) refl (λ same. absurd (omega arith))
  are_words k small (Shut p) is = line_with (codes "shut") 115 _ (record { some = omega arith; bytes = (omega arith, (omega arith, (omega arith, (omega arith, tt)))) }) (peer_word p is, tt) refl (λ same. absurd (omega arith))
  are_words k small (Receive p octets) is = line_with (codes "receive") 114 _ (record { some = omega arith; bytes = (omega arith, (omega arith, (omega arith, (omega arith, (omega arith, (omega arith, (omega arith, tt))))))) }) (peer_word p is.0, (hex_word octets is.1, tt)) refl (λ same. absurd (omega arith))
  are_words k small (Take p) is = line_with (codes "take") 116 _ (record { some = omega arith; bytes = (omega arith, (omega arith, (omega arith, (omega arith, tt)))) }) (peer_word p is, tt) refl (λ same. absurd (omega arith))
  are_words k small (Carry a b) is = line_with (codes "carry") 99 _ (record { some = omega arith; bytes = (omega arith, (omega arith, (omega arith, (omega arith, (omega arith, tt))))) }) (number_word a.0 (omega (arith, is.0)), (number_word b.0 (omega (arith, is.1)), tt)) refl (λ same. absurd (omega arith))
  are_words k small (Break a b) is = line_with (codes "break") 98 _ (record { some = omega arith; bytes = (omega arith, (omega arith, (omega arith, (omega arith, (omega arith, tt))))) }) (number_word a.0 (omega (arith, is.0)), (number_word b.0 (omega (arith, is.1)), tt)) refl (λ same. absurd (omega arith))
  are_words k small (Solve d j) is = line_with (codes "solve") 115 _ (record { some = omega arith; bytes = (omega arith, (omega arith, (omega arith, (omega arith, (omega arith, tt))))) }) (number_word d.0 (omega (arith, is.0)), (decimal_word j is.1, tt)) refl (λ same. absurd (omega arith))
  are_words k small (Tick t) is = line_with (codes "tick") 116 _ (record { some = omega arith; bytes = (omega arith, (omega arith, (omega arith, (omega arith, tt)))) }) (decimal_word t.0 is, tt) refl (λ same. absurd (omega arith))
  are_words k small (Drain p h) is = line_with (codes "drain") 100 _ (record { some = omega arith; bytes = (omega arith, (omega arith, (omega arith, (omega arith, (omega arith, tt))))) }) (peer_word p is.0, (number_word h is.1, tt)) refl (λ same. absurd (omega arith))

pub lines_say : LinesSayEvents
lines_say n obeyed k small e is =
    let line = are_words n obeyed k small e is in
    record { line = line; says = says n (event_words n.peers k e) (line_of k e) line (says_event n obeyed k small e is) }
