-- What was read of a text: potentials in order, paths with an address, a cut in order.
use Rattle.std.proofs.Common.{◌≡◌, ◌≢◌, inl, inr, ℕ, ◌+◌, ◌≤◌, List, [], ◌∷◌, Bool, true, false, cond, leb, Option, Some, None, Result, Ok, Err, refl, ap, subst, ◌∙◌, arith}
use Rattle.std.proofs.lemmas.Bool.Decides.{leb_tells}
use Rattle.std.specs.Str.{bytes_eq}
use Rattle.dom_base.specs.AddrOrder.{rank}
use Rattle.dom_base.specs.declared.addr.Addr.{Addr}
use Rattle.dom_base.specs.AddrText.{addr_in}
use Rattle.dom_base.specs.Steps.{◌>>=◌}
use Rattle.line_text.specs.Words.{words_of}
use Rattle.line_text.specs.Lines.{NumberedLine}
use Rattle.te_links.specs.declared.fault.TopoFault.TheVariants.{Syntax}
use Rattle.te_text.specs.RowText.{first, last, number_64}
use Rattle.te_text.specs.declared.error.TextError.{TextError}
use Rattle.te_text.specs.declared.error.TextError.TheVariants.{At}
use Rattle.path_certificate.specs.RowText.{addrs_in, addrs_behind, is_dash}
use Rattle.te_text.specs.Reading.{and_then, or_syntax}
use Rattle.path_certificate.specs.Text.{least_behind}
use Rattle.diverse_pairs.specs.declared.certificate.PairForm.{PairForm}
use Rattle.diverse_pairs.specs.declared.certificate.PairForm.TheVariants.{Paths, Cut}
use Rattle.diverse_pairs.specs.declared.pair_row.PairRow.{PairRow}
use Rattle.diverse_pairs.specs.declared.pair_row.PairRow.TheVariants as rows
use Rattle.diverse_pairs.specs.RowText.{potential_row, some_addrs, rising_in, rising_behind, nodes_behind, row_in, at_word, first_word, second_word, cut_word}
use Rattle.diverse_pairs.specs.Text.{row_at, body_in, second_in, second_says, nothing_in, cut_says, with_potential, line_says}
use Rattle.diverse_pairs.specs.Potentials.{HasRising}
use Rattle.diverse_pairs.specs.PairText.{CanBeTold}
use Rattle.diverse_pairs.proofs.Ascending.{RisingFrom, rising_pairs}

by_parts : {X Y : Type 0} (o : Option X) (f : X → Option Y) (y : Y) → (o >>= f) ≡ Some y → (x : X) × (f x ≡ Some y)
by_parts (Some x) f y is = (x, is)
by_parts None f y is = absurd (cc)

-- ---- words

rising_told : (least : ℕ) (words : List (List ℕ)) (addrs : List Addr) → rising_in least words ≡ Some addrs → RisingFrom rank least addrs
rising_told least [] addrs is =
    let same : [] ≡ addrs = cc in
    subst (λ (as' : List Addr). RisingFrom rank least as') same tt
rising_told least (word ∷ words) addrs is =
    let p = by_parts (addr_in word) (λ addr. cond (leb least (rank addr)) (rising_in (rank addr + 1) words >>= λ others. Some (addr ∷ others)) None) addrs is in
    elim (leb_tells least (rank p.0)) [
      | inl t ↦ more p.0 t.1 (rising_in (rank p.0 + 1) words) (λ others h. rising_told (rank p.0 + 1) words others h) (rw t.0 at p.1)
      | inr f ↦ let bad : None ≡ Some addrs = rw f.0 at p.1 in absurd (cc)
    ]
  where
    more : (addr : Addr) → least ≤ rank addr → (o : Option (List Addr)) → ((others : List Addr) → o ≡ Some others → RisingFrom rank (rank addr + 1) others) →
        (o >>= λ others. Some (addr ∷ others)) ≡ Some addrs → RisingFrom rank least addrs
    more addr above None rest h = absurd (cc)
    more addr above (Some others) rest h =
        let same : addr ∷ others ≡ addrs = cc in
        subst (λ (as' : List Addr). RisingFrom rank least as') same (above, rest others refl)

nodes_told : (words : List (List ℕ)) (nodes : List Addr) → nodes_behind words ≡ Some nodes → RisingFrom rank 0 nodes
unfolding nodes_behind
nodes_told [] nodes is = absurd (cc)
nodes_told (word ∷ words) nodes is = go (is_dash word) words is
  where
    none : (ws : List (List ℕ)) → last [] ws ≡ Some nodes → RisingFrom rank 0 nodes
    none [] h =
        let same : [] ≡ nodes = cc in
        subst (λ (as' : List Addr). RisingFrom rank 0 as') same tt
    none (w ∷ ws) h = absurd (cc)

    more : (start : Addr) (o : Option (List Addr)) → ((others : List Addr) → o ≡ Some others → RisingFrom rank (rank start + 1) others) →
        (o >>= λ others. Some (start ∷ others)) ≡ Some nodes → RisingFrom rank 0 nodes
    more start None rest h = absurd (cc)
    more start (Some others) rest h =
        let same : start ∷ others ≡ nodes = cc in
        subst (λ (as' : List Addr). RisingFrom rank 0 as') same (omega arith, rest others refl)

    go : (b : Bool) (ws : List (List ℕ)) → cond b (last [] ws) (addr_in word >>= λ start. rising_behind start ws) ≡ Some nodes → RisingFrom rank 0 nodes
    go true ws h = none ws h
    go false ws h =
        let p = by_parts (addr_in word) (λ start. rising_behind start ws) nodes h in
        more p.0 (rising_in (rank p.0 + 1) ws) (λ others e. rising_told (rank p.0 + 1) ws others e) p.1

some_told : (words : List (List ℕ)) (addrs : List Addr) → some_addrs words ≡ Some addrs → addrs ≢ []
some_told words addrs is =
    let p = by_parts (first addr_in words) (λ start. addrs_behind start.0 start.1) addrs is in
    let q = by_parts (addrs_in p.0.1) (λ others. Some (p.0.0 ∷ others)) addrs p.1 in
    λ none. let bad : Some (p.0.0 ∷ q.0) ≡ Some [] = q.1 ∙ ap (λ (as' : List Addr). Some as') none in cc

abbrev IsGood : PairRow → Type 0
IsGood (rows.At addr number) = Unit {0}
IsGood (rows.First one) = one ≢ []
IsGood (rows.Second other) = other ≢ []
IsGood (rows.Cut nodes) = RisingFrom rank 0 nodes

potential_good : (words : List (List ℕ)) (row : PairRow) → potential_row words ≡ Some row → IsGood row
potential_good words row is =
    let p = by_parts (first addr_in words) (λ addr. first number_64 addr.1 >>= λ number. last (rows.At addr.0 number.0) number.1) row is in
    let q = by_parts (first number_64 p.0.1) (λ number. last (rows.At p.0.0 number.0) number.1) row p.1 in
    go p.0.0 q.0.0 q.0.1 q.1
  where
    go : (a : Addr) (n : ℕ) (ws : List (List ℕ)) → last (rows.At a n) ws ≡ Some row → IsGood row
    go a n [] h =
        let same : rows.At a n ≡ row = cc in
        subst IsGood same tt
    go a n (w ∷ ws) h = absurd (cc)

row_good : (words : List (List ℕ)) (row : PairRow) → row_in words ≡ Some row → IsGood row
unfolding row_in
row_good [] row is = absurd (cc)
row_good (name ∷ words) row is = go (bytes_eq name at_word) (bytes_eq name first_word) (bytes_eq name second_word) (bytes_eq name cut_word) is
  where
    one : (o : Option (List Addr)) → ((addrs : List Addr) → o ≡ Some addrs → addrs ≢ []) → (o >>= λ addrs. Some (rows.First addrs)) ≡ Some row → IsGood row
    one None each h = absurd (cc)
    one (Some addrs) each h = let same : rows.First addrs ≡ row = cc in subst IsGood same (each addrs refl)

    other : (o : Option (List Addr)) → ((addrs : List Addr) → o ≡ Some addrs → addrs ≢ []) → (o >>= λ addrs. Some (rows.Second addrs)) ≡ Some row → IsGood row
    other None each h = absurd (cc)
    other (Some addrs) each h = let same : rows.Second addrs ≡ row = cc in subst IsGood same (each addrs refl)

    cuts : (o : Option (List Addr)) → ((nodes : List Addr) → o ≡ Some nodes → RisingFrom rank 0 nodes) → (o >>= λ nodes. Some (rows.Cut nodes)) ≡ Some row → IsGood row
    cuts None each h = absurd (cc)
    cuts (Some nodes) each h = let same : rows.Cut nodes ≡ row = cc in subst IsGood same (each nodes refl)

    go : (a f s k : Bool) →
        cond a (potential_row words) (cond f (some_addrs words >>= λ addrs. Some (rows.First addrs)) (cond s (some_addrs words >>= λ addrs. Some (rows.Second addrs))
        (cond k (nodes_behind words >>= λ nodes. Some (rows.Cut nodes)) None))) ≡ Some row → IsGood row
    go true f s k h = potential_good words row h
    go false true s k h = one (some_addrs words) (λ addrs e. some_told words addrs e) h
    go false false true k h = other (some_addrs words) (λ addrs e. some_told words addrs e) h
    go false false false true h = cuts (nodes_behind words) (λ nodes e. nodes_told words nodes e) h
    go false false false false h = absurd (cc)

-- ---- lines

line_good : (line : NumberedLine) (row : PairRow) → row_at line ≡ Ok row → IsGood row
unfolding row_at
line_good line row is = go (words_of line.text) is
  where
    said : (o : Option PairRow) → or_syntax line.number o ≡ Ok row → o ≡ Some row
    said None h = absurd (cc)
    said (Some r) h = let same : r ≡ row = cc in ap (λ (x : PairRow). Some x) same

    go : (o : Option (List (List ℕ))) → or_syntax line.number (o >>= row_in) ≡ Ok row → IsGood row
    go None h = absurd (cc)
    go (Some words) h = row_good words row (said (row_in words) h)

abbrev ToldFrom : ℕ → PairForm → Type 0
ToldFrom least (Paths potentials one other) = RisingFrom (λ (row : Addr × ℕ). rank row.0) least potentials × (one ≢ []) × (other ≢ [])
ToldFrom least (Cut nodes) = RisingFrom rank 0 nodes

second_told : (end : ℕ) (lines : List NumberedLine) (other : List Addr) → second_in end lines ≡ Ok other → other ≢ []
second_told end [] other is = absurd (cc)
second_told end (line ∷ others) other is = go (row_at line) (λ row e. line_good line row e) is
  where
    ends : (o : List Addr) → o ≢ [] → (left : List NumberedLine) → and_then (nothing_in left) (λ _. Ok o) ≡ Ok other → other ≢ []
    ends o some [] h = let same : o ≡ other = cc in subst (λ (x : List Addr). x ≢ []) same some
    ends o some (l ∷ left) h = absurd (cc)

    go : (r : Result PairRow TextError) → ((row : PairRow) → r ≡ Ok row → IsGood row) → and_then r (second_says line others) ≡ Ok other → other ≢ []
    go (Err e) good h = absurd (cc)
    go (Ok (rows.At addr number)) good h = absurd (cc)
    go (Ok (rows.First one)) good h = absurd (cc)
    go (Ok (rows.Second o)) good h = ends o (good (rows.Second o) refl) others h
    go (Ok (rows.Cut nodes)) good h = absurd (cc)

cut_told : (least : ℕ) (before : Option Addr) (line : ℕ) (left : List NumberedLine) (nodes : List Addr) (form : PairForm) → RisingFrom rank 0 nodes →
    cut_says before line left nodes ≡ Ok form → ToldFrom least form
cut_told least (Some addr) line left nodes form up is = absurd (cc)
cut_told least None line (l ∷ left) nodes form up is = absurd (cc)
cut_told least None line [] nodes form up is = let same : Cut nodes ≡ form = cc in subst (ToldFrom least) same up

paths_told : (least : ℕ) (one : List Addr) (said : Result (List Addr) TextError) (form : PairForm) → one ≢ [] → ((other : List Addr) → said ≡ Ok other → other ≢ []) →
    and_then said (λ other. Ok (Paths [] one other)) ≡ Ok form → ToldFrom least form
paths_told least one (Err e) form some each is = absurd (cc)
paths_told least one (Ok other) form some each is =
    let same : Paths [] one other ≡ form = cc in
    subst (ToldFrom least) same (tt, some, each other refl)

potential_told : (least number : ℕ) (addr : Addr) (said : Result PairForm TextError) (form : PairForm) → least ≤ rank addr →
    ((f : PairForm) → said ≡ Ok f → ToldFrom (rank addr + 1) f) → and_then said (λ f. Ok (with_potential (addr, number) f)) ≡ Ok form → ToldFrom least form
potential_told least number addr (Err e) form above each is = absurd (cc)
potential_told least number addr (Ok (Paths potentials one other)) form above each is =
    let same : Paths ((addr, number) ∷ potentials) one other ≡ form = cc in
    let rest = each (Paths potentials one other) refl in
    subst (ToldFrom least) same ((above, rest.0), rest.1, rest.2)
potential_told least number addr (Ok (Cut nodes)) form above each is =
    let same : Cut nodes ≡ form = cc in
    subst (ToldFrom least) same (each (Cut nodes) refl)

body_told : (end : ℕ) (before : Option Addr) (lines : List NumberedLine) (form : PairForm) → body_in end before lines ≡ Ok form → ToldFrom (least_behind before) form
unfolding body_in
body_told end before [] form is = absurd (cc)
body_told end before (line ∷ others) form is = go (row_at line) (λ row e. line_good line row e) (λ addr f e. body_told end (Some addr) others f e) is
  where
    go : (r : Result PairRow TextError) → ((row : PairRow) → r ≡ Ok row → IsGood row) →
        ((addr : Addr) (f : PairForm) → body_in end (Some addr) others ≡ Ok f → ToldFrom (rank addr + 1) f) →
        and_then r (line_says end before line others (λ addr. body_in end (Some addr) others)) ≡ Ok form → ToldFrom (least_behind before) form
    go (Err e) good rest h = absurd (cc)
    go (Ok (rows.At addr number)) good rest h =
        elim (leb_tells (least_behind before) (rank addr)) [
          | inl t ↦ potential_told (least_behind before) number addr (body_in end (Some addr) others) form t.1 (rest addr) (rw t.0 at h)
          | inr f ↦ let bad : Err (At line.number Syntax) ≡ Ok form = rw f.0 at h in absurd (cc)
        ]
    go (Ok (rows.First one)) good rest h =
        paths_told (least_behind before) one (second_in end others) form (good (rows.First one) refl) (λ other e. second_told end others other e) h
    go (Ok (rows.Second other)) good rest h = absurd (cc)
    go (Ok (rows.Cut nodes)) good rest h = cut_told (least_behind before) before line.number others nodes form (good (rows.Cut nodes) refl) h

-- what lines say can be told
pub lines_told : (end : ℕ) (lines : List NumberedLine) (form : PairForm) → body_in end None lines ≡ Ok form → CanBeTold form
lines_told end lines form is = go form (body_told end None lines form is)
  where
    go : (f : PairForm) → ToldFrom 0 f → CanBeTold f
    go (Paths potentials one other) told = (rising_pairs (λ (row : Addr × ℕ). rank row.0) 0 potentials told.0, told.1, told.2)
    go (Cut nodes) told = rising_pairs rank 0 nodes told

pub told_rises : (form : PairForm) → CanBeTold form → HasRising form
told_rises (Paths potentials one other) told = told.0
told_rises (Cut nodes) told = tt
