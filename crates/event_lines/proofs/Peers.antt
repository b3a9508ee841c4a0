-- Names of peers: words, each of which is found at its own row.
use Rattle.std.proofs.Common.{◌≡◌, ◌≢◌, ℕ, zero, suc, ◌+◌, ◌<◌, Bool, true, false, not, ◌&&◌, ◌||◌, nat_le, nat_lt, codes, All, AllPairs, List, [], ◌∷◌, ◌++◌, length, get_or, position, slice_get, Option, Some, None, refl, ap, ◌∙◌, sym, arith, inl, inr}
use Rattle.std.proofs.lemmas.Bool.{cases_Bool, and_parts, lt-ltb}
use Rattle.std.proofs.lemmas.Bool.Decides.{nat_tests}
use Rattle.std.proofs.lemmas.List.Elements.{All-nil, All-cons, All-get_or}
use Rattle.std.proofs.lemmas.List.Sums.{position_or_len_is}
use Rattle.std.proofs.lemmas.Slice.Eq.{bytes_eq-Decides}
use Rattle.std.specs.List.{AllByRecursion, list_all, position_or_len}
use Rattle.std.specs.Str.{bytes_eq}
use Rattle.line_text.specs.Spelling.{IsWord}
use Rattle.plant_text.specs.declared.fault.Breach.{Breach}
use Rattle.plant_text.specs.declared.fault.Breach.TheVariants.{TooMany, Shape, Duplicate, Unknown}
use Rattle.plant_text.specs.declared.settings.NetworkParts.{NetworkParts}
use Rattle.plant_text.specs.declared.settings.PeerRow.{PeerRow}
use Rattle.plant_text.specs.Faults.{AreObeyed, first_of}
use Rattle.plant_text.specs.Lines.{peer_in}
use Rattle.plant_text.specs.Settings.{is_element}
use Rattle.plant_text.specs.Rules.{Rules, at_row, is_digit, is_letter, is_class, is_name, leads_out, peer_form, peer_rules, repeats_peer, rows_from, rules_of, sheet_of, told}
use Rattle.plant_text.proofs.RuleLaws.{none_front, none_back, none_of}
use Rattle.plant_text.proofs.SettingLaws.{rules_are_worth}
use Rattle.plant_text.proofs.SheetLaws.{all_clear}
use Rattle.event_lines.specs.EventLines.{peer_name}

-- ---- names are words

letter_printed : (c : ℕ) → is_letter c ≡ true → 32 < c
letter_printed c is = grind (arith, nat_tests)

behind_printed : (c : ℕ) → (is_letter c || is_digit c) ≡ true → 32 < c
behind_printed c is = grind (arith, nat_tests)

all_printed : (name : List ℕ) → list_all (λ c. is_letter c || is_digit c) name ≡ true → AllByRecursion (λ c. 32 < c) name
all_printed [] is = tt
all_printed (c ∷ name) is =
    let parts = and_parts (is_letter c || is_digit c) (list_all (λ c. is_letter c || is_digit c) name) is in
    (behind_printed c parts.0, all_printed name parts.1)

name_word : (name : List ℕ) → is_name name ≡ true → IsWord name
name_word [] is = absurd (cc)
name_word (c ∷ name) is =
    let whole = and_parts (is_letter c && list_all (λ d. is_letter d || is_digit d) name) (nat_le (length (c ∷ name)) 16) is in
    let parts = and_parts (is_letter c) (list_all (λ d. is_letter d || is_digit d) name) whole.0 in
    record { some = omega arith; bytes = (letter_printed c parts.0, all_printed name parts.1) }

-- ---- the rules say so

not_false : (b : Bool) → not b ≡ false → b ≡ true
not_false true e = refl
not_false false e = absurd (let no : true ≡ false = e in cc)

first_holds_not : {X : Type 0} (b : Bool) (x : X) (rs : Rules X) → first_of ((b, x) ∷ rs) ≡ None → b ≡ false
first_holds_not true x rs none = absurd (let no : Some x ≡ None = none in cc)
first_holds_not false x rs none = refl

no_more : {X : Type 0} (b : Bool) (x : X) (rs : Rules X) → first_of ((b, x) ∷ rs) ≡ None → first_of rs ≡ None
no_more true x rs none = absurd (let no : Some x ≡ None = none in cc)
no_more false x rs none = none

row_clear : (table : List ℕ) (i : ℕ) (rs : Rules Breach) → first_of (at_row table i rs) ≡ None → first_of rs ≡ None
row_clear table i [] none = refl
row_clear table i ((true, x) ∷ rs) none = absurd (let no : Some (told table i x) ≡ None = none in cc)
row_clear table i ((false, x) ∷ rs) none = row_clear table i rs none

form_of : (n : NetworkParts) (before : List PeerRow) (p : PeerRow) → first_of (peer_rules (sheet_of n) before p) ≡ None → is_name p.name ≡ true
form_of n before p none =
    let form : peer_form p ≡ true = not_false (peer_form p) (first_holds_not (not (peer_form p)) Shape ((repeats_peer (sheet_of n) before p, Duplicate) ∷ (not (is_element n p.at), Unknown) ∷ []) none) in
    let named = (and_parts ((is_name p.name && is_class p.class) && nat_lt 0 p.port) (not p.down || leads_out p.class) form).0 in
    (and_parts (is_name p.name) (is_class p.class) (and_parts (is_name p.name && is_class p.class) (nat_lt 0 p.port) named).0).0

abbrev IsNamed : PeerRow → Type 0
IsNamed p = IsWord p.name

words_from : (n : NetworkParts) (i : ℕ) (before rows : List PeerRow) → first_of (rows_from (codes "peer") 256 (peer_rules (sheet_of n)) i before rows) ≡ None → All IsNamed rows
words_from n i before [] none = All-nil IsNamed
words_from n i before (p ∷ rows) none =
    let asked = peer_rules (sheet_of n) in
    let here = at_row (codes "peer") i ((nat_le 256 i, TooMany) ∷ asked before p) in
    let later = rows_from (codes "peer") 256 asked (i + 1) (before ++ p ∷ []) rows in
    let clear = row_clear (codes "peer") i ((nat_le 256 i, TooMany) ∷ asked before p) (none_front here later none) in
    All-cons IsNamed p rows (name_word p.name (form_of n before p (no_more (nat_le 256 i) TooMany (asked before p) clear)))
    (words_from n (i + 1) (before ++ p ∷ []) rows (none_back here later none))

names_are_words : (n : NetworkParts) → AreObeyed (rules_of n) → All IsNamed n.peers
names_are_words n obeyed =
    let clear = all_clear (sheet_of n) (none_of (rules_of n) obeyed) in
    words_from n 0 [] n.peers (none_front (rows_from (codes "peer") 256 (peer_rules (sheet_of n)) 0 [] n.peers) [] clear.peers_clear)

-- ---- a name at its own row

row_at : (rows : List PeerRow) (i : ℕ) → i < length rows → (p : PeerRow) × (slice_get rows i ≡ Some p) × (get_or rows i p ≡ p)
row_at [] i within = absurd (omega arith)
row_at (r ∷ rows) zero within = (r, refl, refl)
row_at (r ∷ rows) (suc i) within = let found = row_at rows i (omega arith) in (found.0, found.1, found.2)

other_name : (a b : List ℕ) → a ≢ b → bytes_eq a b ≡ false
other_name a b differ =
    elim (cases_Bool (bytes_eq a b)) [
      | inl t ↦ absurd (differ ((bytes_eq-Decides a b).0 t))
      | inr f ↦ f
    ]

-- the first row of that name is its own
found_at : (rows : List PeerRow) (i : ℕ) (p : PeerRow) → i < length rows → get_or rows i p ≡ p → AllPairs (λ (q r : PeerRow). q.name ≢ r.name) rows
    → position (λ (q : PeerRow). bytes_eq q.name p.name) rows ≡ Some i
found_at rows i p within is differ =
    let asked : PeerRow → Bool = λ q. bytes_eq q.name p.name in
    let place : position_or_len asked rows ≡ i =
    position_or_len_is asked rows i p (omega arith)
    (λ k below. other_name (get_or rows k p).name p.name (λ same. differ k i p below within (same ∙ ap (λ (q : PeerRow). q.name) (sym is))))
    (λ _. (bytes_eq-Decides (get_or rows i p).name p.name).1 (ap (λ (q : PeerRow). q.name) is)) in
    rw (place, lt-ltb i (length rows) within) refl

pub record IsPeer (n : NetworkParts) (i : ℕ) : Type 0 where
  pub word : IsWord (peer_name n.peers i)
  pub found : peer_in n.peers (peer_name n.peers i) ≡ Some (Some i)

pub is_peer : (n : NetworkParts) → AreObeyed (rules_of n) → (i : ℕ) → i < length n.peers → IsPeer n i
is_peer n obeyed i within =
    let (p, got, is) = row_at n.peers i within in
    let named : IsWord (get_or n.peers i p).name = All-get_or IsNamed n.peers i p within (names_are_words n obeyed) in
    let differ = (rules_are_worth n obeyed).peers.names_differ in
    record {
      word = rw (got, sym (ap (λ (q : PeerRow). q.name) is)) named;
      found = rw got (ap (λ (o : Option ℕ). Some o) (found_at n.peers i p within is differ));
    }
