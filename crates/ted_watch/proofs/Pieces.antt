-- Bytes that are taken one piece behind the other.
use Rattle.std.proofs.Common.{◌≡◌, ◌≢◌, ◌≤◌, ◌+◌, ℕ, List, [], ◌∷◌, ◌++◌, Ok, Err, length, length-append, take, append_assoc, append-nil, arith, refl, sym, ◌∙◌, ap, subst, Result, ⊎_elim}
use Rattle.std.specs.List.{flat_map}
use Rattle.std.specs.declared.option.Option.{Option}
use Rattle.std.specs.Io.KnownBytes.{Appends}
use Rattle.std.proofs.KnownBytes.{Appends-nil, Appends-trans}
use Rattle.std.proofs.Math.Seq.{take-append-add}
use Rattle.std.proofs.lemmas.List.{take_all, take-append-le}
use Rattle.std.proofs.lemmas.List.Elements.{All-append, All-nil, All-push}
use Rattle.std.proofs.lemmas.List.Concat.{flat_map-append}
use Rattle.dom_edge.specs.Streams.{Writing}
use Rattle.dom_edge.specs.Whole.{AppendsSome}
use Rattle.ted_watch.specs.declared.shown.Shown.{Shown}
use Rattle.ted_watch.specs.Answers.{AreAnswered, Reads, asked_in, text_of}
use Rattle.ted_watch.specs.Serving.{AreTaken, Cuts, Feeds, GoesOn, HasNoEnd, IsOpen, Leaves, Writes, ended}
use Rattle.ted_watch.specs.declared.serving.Watched.{Watched}
use Rattle.ted_watch.specs.declared.serving.Watched.TheVariants.{PeerEnd, ReadFault, WriteFault, LongLine, Silent, Turns, NoMemory}

-- ---- what was written

-- a first part of a text behind a whole one
some_on : (a b c : Option (List ℕ)) (s t : List ℕ) → Appends a b s → AppendsSome b c t → AppendsSome a c (s ++ t)
some_on a b c s t first second = record {
  count = length s + second.count;
  within = omega (arith, second.within, length-append s t);
  added = subst (Appends a c) (sym (take-append-add s t second.count)) (Appends-trans a b c s (take second.count t) first second.added);
}

pub none_of : (a : Option (List ℕ)) (t : List ℕ) → AppendsSome a a t
none_of a t = record { count = 0; within = omega arith; added = Appends-nil a }

pub writes_on : (end : Watched) (a b c : Option (List ℕ)) (s t : List ℕ) → Appends a b s → Writes end b c t → Writes end a c (s ++ t)
writes_on PeerEnd a b c s t first second = Appends-trans a b c s t first second
writes_on ReadFault a b c s t first second = Appends-trans a b c s t first second
writes_on WriteFault a b c s t first second = some_on a b c s t first second
writes_on LongLine a b c s t first second = Appends-trans a b c s t first second
writes_on Silent a b c s t first second = Appends-trans a b c s t first second
writes_on Turns a b c s t first second = Appends-trans a b c s t first second
writes_on NoMemory a b c s t first second = some_on a b c s t first second

-- ---- lines and their answers

answered_on : (ls ms : List (List ℕ)) (a b c : List Shown) (s t : List ℕ) → AreAnswered ls a b s → AreAnswered ms b c t → AreAnswered (ls ++ ms) a c (s ++ t)
answered_on [] ms a b c s t first second =
    subst (λ (k : List Shown). AreAnswered ms k c (s ++ t)) first.0 (subst (λ (u : List ℕ). AreAnswered ms b c (u ++ t)) (sym first.1) second)
answered_on (line ∷ ls) ms a b c s t first second = (
  first.0,
  first.1 ++ t,
  first.2,
  answered_on ls ms first.0 b c first.1 t first.3 second,
  ap (λ (u : List ℕ). u ++ t) first.4 ∙ append_assoc (text_of (asked_in line) first.0) first.1 t,
)

-- further bytes behind a rest
pub taken_on : (bytes line p rest : List ℕ) (a b c : List Shown) (W V U : List ℕ → Type 0) → ((s t : List ℕ) → W s → V t → U (s ++ t)) →
    AreTaken bytes line a b W → AreTaken (line ++ p) rest b c V → AreTaken (bytes ++ p) rest a c U
taken_on bytes line p rest a b c W V U joins first second =
    let F : List (List ℕ) → List ℕ = λ (ls : List (List ℕ)). flat_map ended ls in
    record {
      lines = first.lines ++ second.lines;
      each = All-append HasNoEnd first.lines second.lines first.each second.each;
      is = ap (λ (x : List ℕ). x ++ p) first.is
          ∙ (append_assoc (F first.lines) line p
          ∙ (ap (λ (x : List ℕ). F first.lines ++ x) second.is
          ∙ (sym (append_assoc (F first.lines) (F second.lines) rest) ∙ ap (λ (x : List ℕ). x ++ rest) (sym (flat_map-append ended first.lines second.lines)))));
      text = first.text ++ second.text;
      answered = answered_on first.lines second.lines a b c first.text second.text first.answered second.answered;
      written = joins first.text second.text first.written second.written;
    }

-- no line yet
pub taken_none : (line : List ℕ) (k : List Shown) (W : List ℕ → Type 0) → W [] → AreTaken line line k k W
taken_none line k W w = record { lines = []; each = All-nil HasNoEnd; is = refl; text = []; answered = (refl, refl); written = w }

-- bytes behind the rest that are no longer looked at
taken_more : (bytes rest more : List ℕ) (a b : List Shown) (W : List ℕ → Type 0) → AreTaken bytes rest a b W → AreTaken (bytes ++ more) (rest ++ more) a b W
taken_more bytes rest more a b W t = record {
  lines = t.lines;
  each = t.each;
  is = ap (λ (x : List ℕ). x ++ more) t.is ∙ append_assoc (flat_map ended t.lines) rest more;
  text = t.text;
  answered = t.answered;
  written = t.written;
}

-- one line
pub one_taken : (line : List ℕ) (a b : List Shown) (W : List ℕ → Type 0) → HasNoEnd line → Reads (asked_in line) a b → W (text_of (asked_in line) b) → AreTaken (line ++ 10 ∷ []) [] a b W
one_taken line a b W never reads w = record {
  lines = line ∷ [];
  each = All-push HasNoEnd [] line (All-nil HasNoEnd) never;
  is = sym (append-nil (flat_map ended (line ∷ [])) ∙ append-nil (ended line));
  text = text_of (asked_in line) b;
  answered = (b, [], reads, (refl, refl), sym (append-nil (text_of (asked_in line) b)));
  written = w;
}

-- ---- pieces

leaves_more : (end : Watched) (rest more : List ℕ) (w v : Writing) → Cuts end w v → Leaves end rest → Leaves end (rest ++ more)
leaves_more LongLine rest more w v cuts leaves = (
  subst HasNoEnd (sym (take-append-le 64 rest more leaves.1)) leaves.0,
  omega (arith, leaves.1, length-append rest more),
)
leaves_more WriteFault rest more w v cuts leaves = tt
leaves_more NoMemory rest more w v cuts leaves = tt
leaves_more PeerEnd rest more w v cuts leaves = absurd cuts
leaves_more ReadFault rest more w v cuts leaves = absurd cuts
leaves_more Silent rest more w v cuts leaves = absurd cuts
leaves_more Turns rest more w v cuts leaves = absurd cuts

cuts_on : (end : Watched) (w v u : Writing) → w.faults ≤ v.faults → Cuts end v u → Cuts end w u
cuts_on WriteFault w v u later cuts = omega (arith, later, cuts)
cuts_on LongLine w v u later cuts = tt
cuts_on NoMemory w v u later cuts = tt
cuts_on PeerEnd w v u later cuts = absurd cuts
cuts_on ReadFault w v u later cuts = absurd cuts
cuts_on Silent w v u later cuts = absurd cuts
cuts_on Turns w v u later cuts = absurd cuts

module _ (a b c : List Shown) (w v u : Writing) where
  pub fed_on : (p q line mid left : List ℕ) (r : Result (Unit {0}) Watched) → Feeds p (Ok tt) line mid a b w v → Feeds q r mid left b c v u → Feeds (p ++ q) r line left a c w u
  fed_on p q line mid left (Ok t) first second =
      let more = taken_on (line ++ p) mid q left a b c (Appends w.written v.written) (Appends v.written u.written) (Appends w.written u.written)
      (λ s t f g. Appends-trans w.written v.written u.written s t f g) first.0 second.0 in (
        subst (λ (x : List ℕ). AreTaken x left a c (Appends w.written u.written)) (append_assoc line p q) more,
        second.1,
        omega (arith, first.2, second.2),
      )
  fed_on p q line mid left (Err end) first second =
      let more = taken_on (line ++ p) mid q second.0 a b c (Appends w.written v.written) (Writes end v.written u.written) (Writes end w.written u.written)
      (λ s t f g. writes_on end w.written v.written u.written s t f g) first.0 second.2 in (
        second.0,
        second.1,
        subst (λ (x : List ℕ). AreTaken x second.0 a c (Writes end w.written u.written)) (append_assoc line p q) more,
        cuts_on end w v u first.2 second.3,
      )

pub fed_more : (p q line left : List ℕ) (end : Watched) (a b : List Shown) (w v : Writing) → Feeds p (Err end) line left a b w v → Feeds (p ++ q) (Err end) line left a b w v
fed_more p q line left end a b w v fed = (
  fed.0 ++ q,
  leaves_more end fed.0 q w v fed.3 fed.1,
  subst (λ (x : List ℕ). AreTaken x (fed.0 ++ q) a b (Writes end w.written v.written)) (append_assoc line p q) (taken_more (line ++ p) fed.0 q a b (Writes end w.written v.written) fed.2),
  fed.3,
)

pub none_fed : (line : List ℕ) (k : List Shown) (w : Writing) → IsOpen line → Feeds [] (Ok tt) line line k k w w
none_fed line k w begun = (
  subst (λ (x : List ℕ). AreTaken x line k k (Appends w.written w.written)) (sym (append-nil line)) (taken_none line k (Appends w.written w.written) (Appends-nil w.written)),
  begun,
  omega arith,
)

-- a byte that ends no line
pub byte_fed : (byte : ℕ) (line left : List ℕ) (r : Result (Unit {0}) Watched) (k : List Shown) (w : Writing) → IsOpen line → byte ≢ 10 → GoesOn byte r line left → Feeds (byte ∷ []) r line left k k w w
byte_fed byte line left (Ok t) k w begun never goes = (
  subst (λ (x : List ℕ). AreTaken x left k k (Appends w.written w.written)) goes.0 (taken_none left k (Appends w.written w.written) (Appends-nil w.written)),
  (subst HasNoEnd (sym goes.0) (All-push (λ (c : ℕ). c ≢ 10) line byte begun.0 never), goes.1),
  omega arith,
)
byte_fed byte line left (Err end) k w begun never goes = ⊎_elim
    (λ (h : (end ≡ LongLine) × (length line ≡ 63)). subst (λ (e : Watched). Feeds (byte ∷ []) (Err e) line left k k w w) (sym h.0) (long h.1))
    (λ (h : end ≡ NoMemory). subst (λ (e : Watched). Feeds (byte ∷ []) (Err e) line left k k w w) (sym h) (line ++ byte ∷ [], tt, taken_none (line ++ byte ∷ []) k (AppendsSome w.written w.written) (none_of w.written []), tt))
    goes
  where
    long : length line ≡ 63 → Feeds (byte ∷ []) (Err LongLine) line left k k w w
    long many = let whole : take 64 (line ++ byte ∷ []) ≡ line ++ byte ∷ [] = take_all 64 (line ++ byte ∷ []) (omega (arith, many, length-append line (byte ∷ []))) in (
      line ++ byte ∷ [],
      (subst HasNoEnd (sym whole) (All-push (λ (c : ℕ). c ≢ 10) line byte begun.0 never), omega (arith, many, length-append line (byte ∷ []))),
      taken_none (line ++ byte ∷ []) k (Appends w.written w.written) (Appends-nil w.written),
      tt,
    )

-- a line that is answered
pub line_fed : (line : List ℕ) (a b : List Shown) (w v : Writing) → IsOpen line → Reads (asked_in line) a b → Appends w.written v.written (text_of (asked_in line) b) → w.faults ≤ v.faults → Feeds (10 ∷ []) (Ok tt) line [] a b w v
line_fed line a b w v begun reads written later = (one_taken line a b (Appends w.written v.written) begun.0 reads written, (All-nil (λ (c : ℕ). c ≢ 10), omega arith), later)

-- a line whose answer is not written whole
pub line_cut : (end : Watched) (line left : List ℕ) (a b : List Shown) (w v : Writing) → IsOpen line → Leaves end [] → Reads (asked_in line) a b → Writes end w.written v.written (text_of (asked_in line) b) → Cuts end w v → Feeds (10 ∷ []) (Err end) line left a b w v
line_cut end line left a b w v begun leaves reads written cuts = ([], leaves, one_taken line a b (Writes end w.written v.written) begun.0 reads written, cuts)
