-- What requests pin, through opens and closes; and generations that keep pins, through loads, pins and releases.
use Rattle.std.proofs.Common.{◌≡◌, ◌≢◌, ◌+◌, ◌-◌, ◌<◌, ◌≤◌, ◌==◌, ◌^◌, ◌||◌, nat_le, ℕ, Bool, true, false, cond, Option, Some, None, Result, Ok, Err, OnOk, OnErr, List, [], ◌∷◌, ◌++◌, length, map, nat_eq, arith, inl, inr, refl, sym, ◌∙◌, ap, subst, option_map}
use Rattle.std.specs.Prelude.{Contains, count_by}
use Rattle.std.specs.Map.{lookup, remove_entry}
use Rattle.std.proofs.lemmas.Bool.{cases_Bool, cases_eq, eq-eqb, leb-false}
use Rattle.std.proofs.lemmas.List.{length_push, length-map, map-append}
use Rattle.std.proofs.lemmas.List.Elements.{Contains-push_cases, Contains-append_left, Contains-append_right, Contains-append_cases}
use Rattle.te_links.specs.Rows.{Rows}
use Rattle.te_generations.specs.Shelf.{Generation, Shelf, IsShelf, pins_among, pins_of, topology_of, all_pins, pin_count, loaded_of, pinned_of, released_among, released_of}
use Rattle.te_generations.proofs.ShelfLemmas.{test_false, test_true}
use Rattle.te_generations.proofs.RunLemmas.{below_bound, load_keeps, release_keeps}
use Rattle.te_generations.proofs.CountLemmas.{all_pins-loaded, pins_of-loaded, pins_of-pinned, pins_of-released}
use Rattle.pce_common.specs.plant_model.Types.{Held, Peer}
use Rattle.request_table.specs.Pending.{Pending, is_full, key_of, opened_of}
use Rattle.request_table.specs.Lends.{with_item}
use Rattle.pce_common.specs.plant_model.Element.{Item, Row}
use Rattle.pce_common.specs.plant_model.Plant.{Pin}
use Rattle.pce_common.specs.plant_model.Meeting.{Shelves}
use Rattle.pce_element.specs.Pinned.{pins_in}
use Rattle.pce_element.specs.Topologies.{KeepsPins, current_of}
use Rattle.pce_element.specs.Worlds.{IsKept, KeepsOneLess, KeepsOneMore}
use Rattle.pce_common.proofs.HeldRows.{counted, counted_more, counted_some, first_in, later_in, none_in, in_cases, none_removed}

-- ---- what requests pin

pub length-pins : {P : Type 0} → (rows : List (Row P)) → length (pins_in rows) ≡ length rows
length-pins {P} rows = length-map rows (λ (h : Row P). h.1.item.pin)

pub pins_opened : {P : Type 0} → (rows : List (Row P)) (row : Row P) → pins_in (rows ++ row ∷ []) ≡ pins_in rows ++ row.1.item.pin ∷ []
pins_opened {P} rows row = map-append (λ (h : Row P). h.1.item.pin) rows (row ∷ [])

not_full : {T : Type 0} → (pending : Pending T) → is_full pending ≡ false → length pending.rows < pending.limit
not_full pending fits = go (nat_le pending.limit (length pending.rows)) refl (pending.given == 2 ^ 64 - 1) fits
  where
    go : (b : Bool) → nat_le pending.limit (length pending.rows) ≡ b → (c : Bool) → b || c ≡ false → length pending.rows < pending.limit
    go true is c fits' = absurd (let never : true ≡ false = fits' in cc)
    go false is c fits' = leb-false pending.limit (length pending.rows) is

-- a request more may be accepted, so a pin more may be given
pub few_pins : {P : Type 0} → (pending : Pending (Item P)) → pending.limit ≡ 1024 → is_full pending ≡ false → length (pins_in pending.rows) < 1024
few_pins pending limit fits = omega (arith, limit, length-pins pending.rows, not_full pending fits)

-- one is accepted
pub opened_keeps : {P : Type 0} → (Before After : List P → Type 0) (pending more : Pending (Item P)) (peer : Peer) (id : ℕ) (item : Item P) (pin : P) → item.pin ≡ pin → more ≡ opened_of pending peer id item → KeepsOneMore Before pin After →
    Before (pins_in pending.rows) → After (pins_in more.rows)
opened_keeps {P} Before After pending more peer id item pin is opened one keeps =
    let row : Row P = (pending.given + 1, record { key = key_of peer id; item = item }) in
    let pins : pins_in more.rows ≡ pins_in pending.rows ++ pin ∷ [] =
    ap (λ (p : Pending (Item P)). pins_in p.rows) opened ∙ pins_opened pending.rows row ∙ ap (λ (p : P). pins_in pending.rows ++ p ∷ []) is in
    subst After (sym pins) (one (pins_in pending.rows) keeps)

-- the pin of a request that is found stands between others, which are those that it leaves
pub record Stands {P : Type 0} (rows left : List (Row P)) (pin : P) : Type 0 where
  pub front : List P
  pub back : List P
  pub is : pins_in rows ≡ front ++ pin ∷ back
  pub leaves : pins_in left ≡ front ++ back

pub stands_found : {P : Type 0} → (number : ℕ) (rows : List (Row P)) (item : Item P) → option_map (λ (h : Held (Item P)). h.item) (lookup (nat_eq number) rows) ≡ Some item → Stands rows (remove_entry (nat_eq number) rows) item.pin
stands_found {P} number [] item found = absurd (let no : None ≡ Some item = found in cc)
stands_found {P} number (h ∷ rows) item found =
    elim (cases_Bool (nat_eq number h.0)) [
      | inl hit ↦
          let same : Some h.1.item ≡ Some item = rw hit at found in
          let is : h.1.item ≡ item = cc in
          rw hit (record { front = []; back = pins_in rows; is = ap (λ (i : Item P). i.pin ∷ pins_in rows) is; leaves = refl })
      | inr miss ↦
          let rest : Stands rows (remove_entry (nat_eq number) rows) item.pin = stands_found number rows item (rw miss at found) in
          rw miss (record {
            front = h.1.item.pin ∷ rest.front;
            back = rest.back;
            is = ap (λ (ps : List P). h.1.item.pin ∷ ps) rest.is;
            leaves = ap (λ (ps : List P). h.1.item.pin ∷ ps) rest.leaves;
          })
    ]

pub stands_in : {P : Type 0} → (front back : List P) (pin : P) → Contains (front ++ pin ∷ back) pin
stands_in {P} front back pin = Contains-append_right front (pin ∷ back) pin (first_in pin back)

-- what a request that is found pins is kept
pub kept_pin : {P : Type 0} → (Keeps : List P → Type 0) (number : ℕ) (rows : List (Row P)) (item : Item P) → option_map (λ (h : Held (Item P)). h.item) (lookup (nat_eq number) rows) ≡ Some item → Keeps (pins_in rows) → IsKept Keeps item.pin
kept_pin {P} Keeps number rows item found keeps =
    let there = stands_found number rows item found in
    (pins_in rows, keeps, subst (λ (ps : List P). Contains ps item.pin) (sym there.is) (stands_in there.front there.back item.pin))

-- it ends
pub ended_keeps : {P : Type 0} → (Before After : List P → Type 0) (number : ℕ) (rows left : List (Row P)) (item : Item P) (pin : P) → option_map (λ (h : Held (Item P)). h.item) (lookup (nat_eq number) rows) ≡ Some item →
    pin ≡ item.pin → left ≡ remove_entry (nat_eq number) rows → KeepsOneLess Before pin After → Before (pins_in rows) → After (pins_in left)
ended_keeps {P} Before After number rows left item pin found is gone less keeps =
    let there = stands_found number rows item found in
    let stood : pins_in rows ≡ there.front ++ pin ∷ there.back = there.is ∙ ap (λ (p : P). there.front ++ p ∷ there.back) (sym is) in
    let left_is : pins_in left ≡ there.front ++ there.back = ap pins_in gone ∙ there.leaves in
    subst After (sym left_is) (less there.front there.back (subst Before stood keeps))

-- there is none
pub none_ended : {P : Type 0} → (rows left : List (Row P)) (number : ℕ) → option_map (λ (h : Held (Item P)). h.item) (lookup (nat_eq number) rows) ≡ None → left ≡ remove_entry (nat_eq number) rows → left ≡ rows
none_ended {P} rows left number none gone = gone ∙ none_removed number rows (go (lookup (nat_eq number) rows) none)
  where
    go : (o : Option (Held (Item P))) → option_map (λ (h : Held (Item P)). h.item) o ≡ None → o ≡ None
    go None is = refl
    go (Some held) is = absurd (let no : Some held.item ≡ None = is in cc)

-- a request is written, and keeps its pin
pub pins_written : {P : Type 0} → (number : ℕ) (item : Item P) (rows : List (Row P)) (old : Item P) → option_map (λ (h : Held (Item P)). h.item) (lookup (nat_eq number) rows) ≡ Some old → item.pin ≡ old.pin → pins_in (with_item number item rows) ≡ pins_in rows
pins_written {P} number item [] old found same = refl
pins_written {P} number item (h ∷ rows) old found same =
    elim (cases_Bool (nat_eq number h.0)) [
      | inl hit ↦
          let one : Some h.1.item ≡ Some old = rw hit at found in
          let is : h.1.item ≡ old = cc in
          rw hit (ap (λ (p : P). p ∷ pins_in rows) (same ∙ ap (λ (i : Item P). i.pin) (sym is)))
      | inr miss ↦ rw miss (ap (λ (ps : List P). h.1.item.pin ∷ ps) (pins_written number item rows old (rw miss at found) same))
    ]

-- ---- generations

abbrev is_of : ℕ → Pin → Bool
is_of n p = p.number == n

-- a pin's generation has a pin
pub has_pin : (s : Shelf Rows) (pins : List Pin) (p : Pin) → KeepsPins s pins → Contains pins p → 1 ≤ pins_of s p.number
has_pin s pins p keeps has = subst (λ (k : ℕ). 1 ≤ k) (sym (keeps.each p.number)) (counted_some (is_of p.number) pins p has (eq-eqb p.number p.number refl))

-- ---- a load

none_above : (s : Shelf Rows) (n : ℕ) → IsShelf s → s.current.number < n → pins_of s n ≡ 0
none_above s n is above =
    let differs : s.current.number ≢ n = λ same. omega (arith, same) in
    rw (test_false s.current.number n differs)
    (elim (cases_eq (pins_among n s.older) 0) [
      | inl none ↦ none
      | inr some ↦ absurd (omega (arith, below_bound n 0 s.current.number s.older is.older (omega (arith, some))))
    ])

pub loaded_keeps : (s : Shelf Rows) (topology : Rows) (pins : List Pin) → IsShelf s → KeepsPins s pins → KeepsPins (loaded_of s topology) pins
loaded_keeps s topology pins is keeps = record {
  count = all_pins-loaded s topology ∙ keeps.count;
  each = λ n. pins_of-loaded s topology n is ∙ elim (cases_eq (s.current.number + 1) n) [
    | inl new ↦ rw (test_true (s.current.number + 1) n new) (sym (none_above s n is (omega (arith, new))) ∙ keeps.each n)
    | inr old ↦ rw (test_false (s.current.number + 1) n old) (keeps.each n)
  ];
  topology = λ p has. load_keeps s p.number topology is (has_pin s pins p keeps has) ∙ keeps.topology p has;
}

pub load_holds : {E : Type 0} (r : Result ℕ E) (s new : Shelf Rows) (topology : Rows) (pins : List Pin) → OnOk r (new ≡ loaded_of s topology) → OnErr r (new ≡ s) → IsShelf s → KeepsPins s pins → KeepsPins new pins
load_holds (Ok number) s new topology pins ok err is keeps = subst (λ (t : Shelf Rows). KeepsPins t pins) (sym ok) (loaded_keeps s topology pins is keeps)
load_holds (Err why) s new topology pins ok err is keeps = subst (λ (t : Shelf Rows). KeepsPins t pins) (sym err) keeps

-- ---- a pin is given

pub pinned_keeps : (s new : Shelf Rows) (pins : List Pin) (pin : Pin) → KeepsPins s pins → new ≡ pinned_of s → pin ≡ current_of s → KeepsPins new (pins ++ pin ∷ [])
pinned_keeps s new pins pin keeps made is = subst (λ (t : Shelf Rows). KeepsPins t (pins ++ pin ∷ [])) (sym made) (record {
  count = omega (arith, keeps.count, length_push pins pin);
  each = λ n.
      let own : s.current.number ≡ pin.number = ap (λ (p : Pin). p.number) (sym is) in
      pins_of-pinned s n ∙ ap (λ (k : ℕ). k + cond (s.current.number == n) 1 0) (keeps.each n) ∙ ap (λ (k : ℕ). count_by (is_of n) pins + cond (k == n) 1 0) own
      ∙ sym (counted_more (is_of n) pins pin);
  topology = λ p has. elim (Contains-push_cases pins pin p has) [
    | inl before ↦ keeps.topology p before
    | inr last ↦
        let here : topology_of (pinned_of s) s.current.number ≡ Some s.current.topology = rw (test_true s.current.number s.current.number refl) refl in
        subst (λ (q : Pin). topology_of (pinned_of s) q.number ≡ Some q.topology) (sym is ∙ last) here
  ];
})

-- the pin that was made is the current one
pub made_is : (s new : Shelf Rows) (number : ℕ) (topology : Rows) → number ≡ s.current.number → new ≡ pinned_of s → topology_of new number ≡ Some topology → (let p : Pin = record { number = number; topology = topology } in p) ≡ current_of s
made_is s new number topology at made shown =
    let here : topology_of (pinned_of s) s.current.number ≡ Some s.current.topology = rw (test_true s.current.number s.current.number refl) refl in
    let there : topology_of (pinned_of s) s.current.number ≡ Some topology = ap (topology_of (pinned_of s)) (sym at) ∙ ap (λ (t : Shelf Rows). topology_of t number) (sym made) ∙ shown in
    let both : Some topology ≡ Some s.current.topology = sym there ∙ here in
    let same : topology ≡ s.current.topology = cc in
    ap (λ (n : ℕ). let p : Pin = record { number = n; topology = topology } in p) at ∙ ap (λ (t : Rows). let p : Pin = record { number = s.current.number; topology = t } in p) same

-- ---- a pin is taken back

one_released : (gone : ℕ) (gs : List (Generation Rows)) → 1 ≤ pins_among gone gs → pin_count (released_among gone gs) + 1 ≡ pin_count gs
one_released gone [] some = absurd (omega (arith, some))
one_released gone (g ∷ gs) some =
    elim (cases_eq g.number gone) [
      | inl same ↦
          let pins : 1 ≤ g.pins = rw (test_true g.number gone same) at some in
          elim (cases_eq g.pins 1) [
            | inl one ↦ rw (test_true g.number gone same, test_true g.pins 1 one) (omega (arith, one))
            | inr more ↦ rw (test_true g.number gone same, test_false g.pins 1 more) (omega (arith, pins))
          ]
      | inr other ↦ rw (test_false g.number gone other) (omega (arith, one_released gone gs (rw (test_false g.number gone other) at some)))
    ]

pub all_pins-released : (s : Shelf Rows) (gone : ℕ) → 1 ≤ pins_of s gone → all_pins (released_of s gone) + 1 ≡ all_pins s
all_pins-released s gone some =
    elim (cases_eq s.current.number gone) [
      | inl same ↦ rw (test_true s.current.number gone same) (let pins : 1 ≤ s.current.pins = rw (test_true s.current.number gone same) at some in omega (arith, pins))
      | inr other ↦ rw (test_false s.current.number gone other) (omega (arith, one_released gone s.older (rw (test_false s.current.number gone other) at some)))
    ]

-- a list with one more between its parts
length_between : {X : Type 0} → (front back : List X) (x : X) → length (front ++ x ∷ back) ≡ length (front ++ back) + 1
length_between [] back x = omega arith
length_between (y ∷ front) back x = omega (arith, length_between front back x)

counted_between : {X : Type 0} → (test : X → Bool) (front back : List X) (x : X) → count_by test (front ++ x ∷ back) ≡ cond (test x) 1 0 + count_by test (front ++ back)
counted_between test [] back x = counted test x back
counted_between test (y ∷ front) back x = omega (arith, counted test y (front ++ x ∷ back), counted test y (front ++ back), counted_between test front back x)

among_both : {X : Type 0} → (front back : List X) (x y : X) → Contains (front ++ back) y → Contains (front ++ x ∷ back) y
among_both front back x y has = elim (Contains-append_cases front back y has) [
  | inl before ↦ Contains-append_left front (x ∷ back) y before
  | inr behind ↦ Contains-append_right front (x ∷ back) y (later_in x back y behind)
]

pub released_keeps : (s new : Shelf Rows) (front back : List Pin) (pin : Pin) → IsShelf s → KeepsPins s (front ++ pin ∷ back) → new ≡ released_of s pin.number → KeepsPins new (front ++ back)
released_keeps s new front back pin is keeps made = subst (λ (t : Shelf Rows). KeepsPins t (front ++ back)) (sym made) (record {
  count = omega (arith, all_pins-released s gone some, length_between front back pin, keeps.count);
  each = each;
  topology = λ p has.
      let left : 1 ≤ count_by (is_of p.number) (front ++ back) = counted_some (is_of p.number) (front ++ back) p has (eq-eqb p.number p.number refl) in
      release_keeps s p.number gone is (subst (λ (k : ℕ). 1 ≤ k) (sym (each p.number)) left) ∙ keeps.topology p (among_both front back pin p has);
})
  where
    gone : ℕ
    gone = pin.number

    some : 1 ≤ pins_of s gone
    some = has_pin s (front ++ pin ∷ back) pin keeps (stands_in front back pin)

    each : (n : ℕ) → pins_of (released_of s gone) n ≡ count_by (is_of n) (front ++ back)
    each n =
        let counts : count_by (is_of n) (front ++ pin ∷ back) ≡ cond (gone == n) 1 0 + count_by (is_of n) (front ++ back) = counted_between (is_of n) front back pin in
        pins_of-released s n gone is ∙ ap (λ (k : ℕ). k - cond (gone == n) 1 0) (keeps.each n) ∙ (let e : count_by (is_of n) (front ++ pin ∷ back) - cond (gone == n) 1 0 ≡ count_by (is_of n) (front ++ back) = omega (arith, counts) in e)

-- ---- the model's generations

counted_pins : (n : ℕ) (rows : List (Row Pin)) → count_by (is_of n) (pins_in rows) ≡ count_by (λ (h : Row Pin). h.1.item.pin.number == n) rows
counted_pins n [] = refl
counted_pins n (h ∷ rows) = omega (arith, counted (is_of n) h.1.item.pin (pins_in rows), counted (λ (r : Row Pin). r.1.item.pin.number == n) h rows, counted_pins n rows)

pinned_in : (rows : List (Row Pin)) (h : Row Pin) → Contains rows h → Contains (pins_in rows) h.1.item.pin
pinned_in rows h has = mapped_in (λ (r : Row Pin). r.1.item.pin) rows h has
  where
    mapped_in : {X : Type 0} {Y : Type 0} → (f : X → Y) (xs : List X) (x : X) → Contains xs x → Contains (map f xs) (f x)
    mapped_in f [] x has = absurd (none_in x has)
    mapped_in {X} {Y} f (y ∷ xs) x has = elim (in_cases y xs x has) [
      | inl same ↦ subst (λ (z : Y). Contains (f y ∷ map f xs) z) (ap f same) (first_in (f y) (map f xs))
      | inr there ↦ later_in (f y) (map f xs) (f x) (mapped_in f xs x there)
    ]

pub are_shelves : (s : Shelf Rows) (rows : List (Row Pin)) → KeepsPins s (pins_in rows) → Shelves s (current_of s) rows
are_shelves s rows keeps = record {
  number = refl;
  topology = refl;
  pins = λ n. keeps.each n ∙ counted_pins n rows;
  pinned = λ h has. keeps.topology h.1.item.pin (pinned_in rows h has);
}
