-- What a line feeds is what one of its words means in hexadecimal.
use Rattle.std.proofs.Common.{◌≡◌, ℕ, Bool, true, false, cond, List, [], ◌∷◌, Option, Some, None, refl, sym, subst}
use Rattle.std.specs.List.{AllByRecursion, find}
use Rattle.std.specs.Str.{bytes_eq}
use Rattle.plant_laws.specs.plant_model.Types.{As, LineEvent, NetworkParts, PeerRow}
use Rattle.dom_base.specs.Steps.{◌>>=◌}
use Rattle.line_text.specs.Lines.{is_skipped}
use Rattle.line_text.specs.Words.{words_of}
use Rattle.plant_text.specs.declared.line.LineEvent.TheVariants as event
use Rattle.plant_text.specs.Lines.{are_rows_at, as_in, behind, behind_blind, blind_event_in, blind_line_in, both, event_in, file_in, first, hex_in, last, line_in, number_32, number_64, octets_of, on_in, only, peer_in, rows_in, solved_in, verb_word, verbs}
use Rattle.run_laws.proofs.TextLemmas.AddrRanges.{by_parts}

-- what an event feeds is so
abbrev pub Feeds : (List ℕ → Type 0) → LineEvent → Type 0
Feeds Q e = Q (octets_of e)

-- what a word means in hexadecimal is so
abbrev pub Means : (List ℕ → Type 0) → List ℕ → Type 0
Means Q word = (bytes : List ℕ) → hex_in word ≡ Some bytes → Q bytes

-- and what each of these words means
abbrev pub AllMean : (List ℕ → Type 0) → List (List ℕ) → Type 0
AllMean Q words = AllByRecursion (Means Q) words

-- ---- the words behind the first one

pub is_event : (P : LineEvent → Type 0) (made e : LineEvent) → Some made ≡ Some e → P made → P e
is_event P made e is h = let same : made ≡ e = cc in subst P same h

pub last_event : (P : LineEvent → Type 0) (made e : LineEvent) (words : List (List ℕ)) → last made words ≡ Some e → P made → P e
last_event P made e [] is h = is_event P made e is h
last_event P made e (word ∷ words) is h = absurd (cc)

last_is : {X : Type 0} (made x : X) (words : List (List ℕ)) → last made words ≡ Some x → made ≡ x
last_is made x [] is = cc
last_is made x (word ∷ words) is = absurd (cc)

-- what is left behind the first word
left_mean : {X : Type 0} (Q : List ℕ → Type 0) (read : List ℕ → Option X) (words : List (List ℕ)) → AllMean Q words → (x : X × List (List ℕ)) → first read words ≡ Some x → AllMean Q x.1
left_mean Q read [] all x is = absurd (cc)
left_mean {X} Q read (word ∷ words) all x is =
    let value = by_parts (read word) (λ y. Some (y, words)) x is in
    let same : (value.0, words) ≡ x = cc (value.2) in
    subst (λ (y : X × List (List ℕ)). AllMean Q y.1) same all.1

first_fed : (Q : List ℕ → Type 0) (words : List (List ℕ)) → AllMean Q words → (x : List ℕ × List (List ℕ)) → first hex_in words ≡ Some x → Q x.0
first_fed Q [] all x is = absurd (cc)
first_fed Q (word ∷ words) all x is =
    let bytes = by_parts (hex_in word) (λ bytes. Some (bytes, words)) x is in
    let same : (bytes.0, words) ≡ x = cc (bytes.2) in
    subst (λ (y : List ℕ × List (List ℕ)). Q y.0) same (all.0 bytes.0 bytes.1)

both_fed : (Q : List ℕ → Type 0) (peers : List PeerRow) (words : List (List ℕ)) → AllMean Q words → (x : Option ℕ × List ℕ) → both (peer_in peers) hex_in words ≡ Some x → Q x.1
both_fed Q peers words all x is =
    let peer = by_parts (first (peer_in peers) words) _ x is in
    let bytes = by_parts (first hex_in peer.0.1) _ x peer.2 in
    let same = last_is (peer.0.0, bytes.0.0) x bytes.0.1 bytes.2 in
    subst (λ (y : Option ℕ × List ℕ). Q y.1) same (first_fed Q peer.0.1 (left_mean Q (peer_in peers) words all peer.0 peer.1) bytes.0 bytes.1)

-- ---- the first word

-- an event that is read from words of which the one holds is one of which the other does
abbrev pub ReadsSo : {V : Type 0} → (List (List ℕ) → Type 0) → (LineEvent → Type 0) → (V → List (List ℕ) → Option LineEvent) → V → Type 0
ReadsSo M P read v = (words : List (List ℕ)) (e : LineEvent) → M words → read v words ≡ Some e → P e

-- what an event is read from means what it feeds
abbrev ReadsFed : {V : Type 0} → (List ℕ → Type 0) → (V → List (List ℕ) → Option LineEvent) → V → Type 0
ReadsFed Q read v = ReadsSo (AllMean Q) (Feeds Q) read v

found_in : {V : Type 0} (P : V → Type 0) (test : V → Bool) (vs : List V) → AllByRecursion P vs → (v : V) → find test vs ≡ Some v → P v
found_in P test [] all v is = absurd (cc)
found_in P test (x ∷ xs) all v is = go (test x) (λ e. found_in P test xs all.1 v e) is
  where
    go : (b : Bool) → (find test xs ≡ Some v → P v) → cond b (Some x) (find test xs) ≡ Some v → P v
    go true others e = let same : x ≡ v = cc in subst P same all.0
    go false others e = others e

-- the first word is one of these, and says how the words behind it are read
pub by_verb : {V : Type 0} (M : List (List ℕ) → Type 0) (P : LineEvent → Type 0) → ((word : List ℕ) (words : List (List ℕ)) → M (word ∷ words) → M words) →
    (vs : List V) (word_of : V → List ℕ) (read : V → List (List ℕ) → Option LineEvent) → AllByRecursion (ReadsSo M P read) vs →
    (words : List (List ℕ)) (e : LineEvent) → M words → (first (λ word. find (λ v. bytes_eq word (word_of v)) vs) words >>= λ v. read v.0 v.1) ≡ Some e → P e
by_verb M P behind_first vs word_of read all [] e mean is = absurd (cc)
by_verb {V} M P behind_first vs word_of read all (word ∷ words) e mean is =
    let v = by_parts (find (λ v. bytes_eq word (word_of v)) vs >>= λ v. Some (v, words)) (λ (v : V × List (List ℕ)). read v.0 v.1) e is in
    let x = by_parts (find (λ v. bytes_eq word (word_of v)) vs) (λ v. Some (v, words)) v.0 v.1 in
    let same : v.0 ≡ (x.0, words) = cc (x.2) in
    let at_word : read x.0 words ≡ Some e = subst (λ (y : V × List (List ℕ)). read y.0 y.1 ≡ Some e) same v.2 in
    found_in (ReadsSo M P read) (λ v. bytes_eq word (word_of v)) vs all x.0 x.1 words e (behind_first word words mean) at_word

pub named_then : {X : Type 0} (P : LineEvent → Type 0) (o : Option X) (make : X → LineEvent) → ((x : X) → P (make x)) → (e : LineEvent) → (o >>= λ x. Some (make x)) ≡ Some e → P e
named_then P (Some x) make one e is = is_event P (make x) e is (one x)
named_then P None make one e is = absurd (cc)

-- the octets of an event are what a word means
fed_by_word : (Q : List ℕ → Type 0) (make : Option ℕ → List ℕ → LineEvent) → ((peer : Option ℕ) (bytes : List ℕ) → octets_of (make peer bytes) ≡ bytes) →
    (peers : List PeerRow) (words : List (List ℕ)) (e : LineEvent) → AllMean Q words → (both (peer_in peers) hex_in words >>= λ p. Some (make p.0 p.1)) ≡ Some e → Feeds Q e
fed_by_word Q make same peers words e mean is =
    let p = by_parts (both (peer_in peers) hex_in words) (λ p. Some (make p.0 p.1)) e is in
    is_event (Feeds Q) (make p.0.0 p.0.1) e p.2 (subst Q (sym (same p.0.0 p.0.1)) (both_fed Q peers words mean p.0 p.1))

behind_fed : (Q : List ℕ → Type 0) → Q [] → (peers : List PeerRow) → AllByRecursion (ReadsFed Q (behind peers)) verbs
unfolding behind
behind_fed Q none peers = (
  λ words e mean is. named_then (Feeds Q) (both as_in file_in words) (λ p. event.Load p.0 p.1) (λ p. none) e is,
  (
    λ words e mean is. named_then (Feeds Q) (both as_in file_in words) (λ p. event.Change p.0 p.1) (λ p. none) e is,
    (
      λ words e mean is. named_then (Feeds Q) (both (peer_in peers) number_32 words) (λ p. event.Open p.0 p.1) (λ p. none) e is,
      (
        λ words e mean is. named_then (Feeds Q) (only (peer_in peers) words) event.Shut (λ p. none) e is,
        (
          λ words e mean is. fed_by_word Q event.Feed (λ peer bytes. refl) peers words e mean is,
          (
            λ words e mean is. fed_by_word Q event.Receive (λ peer bytes. refl) peers words e mean is,
            (
              λ words e mean is. named_then (Feeds Q) (only (peer_in peers) words) event.Take (λ p. none) e is,
              (
                λ words e mean is. named_then (Feeds Q) (both as_in as_in words) (λ p. event.Carry p.0 p.1) (λ p. none) e is,
                (
                  λ words e mean is. named_then (Feeds Q) (both as_in as_in words) (λ p. event.Break p.0 p.1) (λ p. none) e is,
                  (
                    λ words e mean is. named_then (Feeds Q) (both as_in number_64 words) (λ p. event.Solve p.0 p.1 []) (λ p. none) e is,
                    (
                      λ words e mean is. named_then (Feeds Q) (only number_64 words) (λ n. event.Tick (record { 0 = n })) (λ p. none) e is,
                      (
                        λ words e mean is. named_then (Feeds Q) (both (peer_in peers) number_32 words) (λ p. event.Drain p.0 p.1) (λ p. none) e is,
                        (
                          λ words e mean is. last_event (Feeds Q) event.Settle e words is none,
                          (
                            λ words e mean is. last_event (Feeds Q) event.Finish e words is none,
                            (
                              λ words e mean is. named_then (Feeds Q) (only on_in words) (λ on. event.CertifyOn) (λ p. none) e is,
                              (
                                λ words e mean is. named_then (Feeds Q) (only on_in words) (λ on. event.DiscloseOn) (λ p. none) e is,
                                tt,
                              ),
                            ),
                          ),
                        ),
                      ),
                    ),
                  ),
                ),
              ),
            ),
          ),
        ),
      ),
    ),
  ),
)

-- what the words of a line say, where the line is told
pub said : (skipped : Bool) (o : Option LineEvent) (e : LineEvent) → cond skipped (Some None) (o >>= λ x. Some (Some x)) ≡ Some (Some e) → o ≡ Some e
said true o e is = let no : None ≡ Some e = cc in absurd (cc)
said false o e is =
    let x = by_parts o (λ x. Some (Some x)) (Some e) is in
    let one : Some x.0 ≡ Some e = cc (x.2) in
    subst (λ (y : Option LineEvent). o ≡ y) one x.1

-- what each word of a line means, its feed is
pub line_fed : (Q : List ℕ → Type 0) → Q [] → (n : NetworkParts) (line : List ℕ) → ((words : List (List ℕ)) → words_of line ≡ Some words → AllMean Q words) →
    (e : LineEvent) → line_in n line ≡ Some (Some e) → Feeds Q e
line_fed Q none n line all e is =
    let words = by_parts (words_of line) (event_in n.peers) e (said (is_skipped line) (words_of line >>= event_in n.peers) e is) in
    by_verb (AllMean Q) (Feeds Q) (λ word rest mean. mean.1) verbs verb_word (behind n.peers) (behind_fed Q none n.peers) words.0 e (all words.0 words.1) words.2

-- ---- lines of a network without topologies

solved_fed : (Q : List ℕ → Type 0) → Q [] → (words : List (List ℕ)) (e : LineEvent) → solved_in words ≡ Some e → Feeds Q e
unfolding solved_in
solved_fed Q none words e is =
    let at = by_parts (first as_in words) _ e is in
    let number = by_parts (first number_64 at.0.1) _ e at.2 in
    let table = by_parts (rows_in number.0.1) _ e number.2 in
    go at.0.0 number.0.0 table.0 (are_rows_at at.0.0 table.0) table.2
  where
    go : (at : As) (k : ℕ) (table : List _) (b : Bool) → cond b (Some (event.Solve at k table)) None ≡ Some e → Feeds Q e
    go at k table true h = is_event (Feeds Q) (event.Solve at k table) e h none
    go at k table false h = absurd (cc)

pub no_event : (P : LineEvent → Type 0) (e : LineEvent) → None ≡ Some e → P e
no_event P e is = absurd (cc)

blind_fed : (Q : List ℕ → Type 0) → Q [] → (peers : List PeerRow) → AllByRecursion (ReadsFed Q (behind_blind peers)) verbs
unfolding behind_blind
blind_fed Q none peers =
    let b = behind_fed Q none peers in (
      λ words e mean is. no_event (Feeds Q) e is,
      (
        λ words e mean is. no_event (Feeds Q) e is,
        (
          λ words e mean is. b.1.1.0 words e mean is,
          (
            λ words e mean is. b.1.1.1.0 words e mean is,
            (
              λ words e mean is. b.1.1.1.1.0 words e mean is,
              (
                λ words e mean is. b.1.1.1.1.1.0 words e mean is,
                (
                  λ words e mean is. b.1.1.1.1.1.1.0 words e mean is,
                  (
                    λ words e mean is. b.1.1.1.1.1.1.1.0 words e mean is,
                    (
                      λ words e mean is. b.1.1.1.1.1.1.1.1.0 words e mean is,
                      (
                        λ words e mean is. solved_fed Q none words e is,
                        (
                          λ words e mean is. b.1.1.1.1.1.1.1.1.1.1.0 words e mean is,
                          (
                            λ words e mean is. b.1.1.1.1.1.1.1.1.1.1.1.0 words e mean is,
                            (
                              λ words e mean is. b.1.1.1.1.1.1.1.1.1.1.1.1.0 words e mean is,
                              (
                                λ words e mean is. no_event (Feeds Q) e is,
                                (
                                  λ words e mean is. no_event (Feeds Q) e is,
                                  (
                                    λ words e mean is. no_event (Feeds Q) e is,
                                    tt,
                                  ),
                                ),
                              ),
                            ),
                          ),
                        ),
                      ),
                    ),
                  ),
                ),
              ),
            ),
          ),
        ),
      ),
    )

pub blind_line_fed : (Q : List ℕ → Type 0) → Q [] → (n : NetworkParts) (line : List ℕ) → ((words : List (List ℕ)) → words_of line ≡ Some words → AllMean Q words) →
    (e : LineEvent) → blind_line_in n line ≡ Some (Some e) → Feeds Q e
blind_line_fed Q none n line all e is =
    let words = by_parts (words_of line) (blind_event_in n.peers) e (said (is_skipped line) (words_of line >>= blind_event_in n.peers) e is) in
    by_verb (AllMean Q) (Feeds Q) (λ word rest mean. mean.1) verbs verb_word (behind_blind n.peers) (blind_fed Q none n.peers) words.0 e (all words.0 words.1) words.2
