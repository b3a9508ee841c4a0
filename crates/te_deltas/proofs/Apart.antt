-- No two rows of a topology have one name.
use Rattle.std.proofs.Common.{◌≡◌, ◌≢◌, ℕ, zero, suc, ◌<◌, ◌||◌, Bool, true, false, List, [], ◌∷◌, ◌++◌, length, map, get_or, refl, subst, inl, inr, arith, length-append}
use Rattle.std.specs.Prelude.{AllPairs}
use Rattle.std.proofs.lemmas.Bool.{cases_Bool}
use Rattle.std.proofs.lemmas.List.{length-map, get_or_append_left}
use Rattle.dom_base.specs.declared.addr.Addr.{Addr}
use Rattle.dom_base.specs.declared.link.Link.{Link}
use Rattle.te_links.specs.declared.rows.OutLink.{OutLink}
use Rattle.te_links.specs.declared.rows.Entry.{Entry}
use Rattle.te_links.specs.Rows.{Rows, IsTopology}
use Rattle.te_text.specs.declared.row.TextRow.{TextRow}
use Rattle.te_text.specs.declared.row.TextRow.TheVariants as rows
use Rattle.te_text.specs.TopologyText.{rows_in_order}
use Rattle.te_deltas.specs.declared.name.RowName.{RowName}
use Rattle.te_deltas.specs.declared.name.RowName.TheVariants as names
use Rattle.te_deltas.specs.Changes.{name_of, same_name, has_name}
use Rattle.te_deltas.specs.Slots.{DifferByName}
use Rattle.te_deltas.proofs.Names.{name_is, name_back}

-- ---- a row between others

or_false : (a b : Bool) → (a || b) ≡ false → (a ≡ false) × (b ≡ false)
or_false true b h = absurd (let no : true ≡ false = h in cc)
or_false false b h = (refl, h)

apart_in : (name : RowName) (done : List TextRow) (row : TextRow) (rest : List TextRow) → has_name name (done ++ row ∷ rest) ≡ false → same_name name (name_of row) ≡ false
apart_in name [] row rest none = (or_false (same_name name (name_of row)) (has_name name rest) none).0
apart_in name (one ∷ done) row rest none = apart_in name done row rest (or_false (same_name name (name_of one)) (has_name name (done ++ row ∷ rest)) none).1

pub middle : (done : List TextRow) (row : TextRow) (rest : List TextRow) → DifferByName (done ++ row ∷ rest) → has_name (name_of row) done ≡ false
middle [] row rest differ = refl
middle (one ∷ done) row rest differ =
    rw (name_back (name_of row) (name_of one), apart_in (name_of one) done row rest differ.0) (middle done row rest differ.1)

-- ---- rows of one kind

abbrev NoneTwice : {X : Type 0} → (X → TextRow) → List X → Type 0
NoneTwice make [] = Unit {0}
NoneTwice make (x ∷ xs) = (has_name (name_of (make x)) (map make xs) ≡ false) × NoneTwice make xs

none_same : {X : Type 0} (make : X → TextRow) (name : RowName) (xs : List X) → ((k : ℕ) (d : X) → k < length xs → name ≢ name_of (make (get_or xs k d))) → has_name name (map make xs) ≡ false
none_same make name [] differ = refl
none_same make name (x ∷ xs) differ =
    elim (cases_Bool (same_name name (name_of (make x)))) [
      | inl hit ↦ absurd (differ 0 x (omega arith) (name_is name (name_of (make x)) hit))
      | inr miss ↦ rw miss (none_same make name xs (λ k d below. differ (suc k) d (omega (arith, below))))
    ]

tail_pairs : {X : Type 0} (R : X → X → Type 0) (x : X) (xs : List X) → AllPairs R (x ∷ xs) → AllPairs R xs
tail_pairs R x xs pairs i j d before below = pairs (suc i) (suc j) d (omega (arith, before)) (omega (arith, below))

from_pairs : {X : Type 0} (make : X → TextRow) (xs : List X) → AllPairs (λ x y. name_of (make x) ≢ name_of (make y)) xs → NoneTwice make xs
from_pairs make [] pairs = tt
from_pairs make (x ∷ xs) pairs = (
  none_same make (name_of (make x)) xs (λ k d below. pairs 0 (suc k) d (omega arith) (omega (arith, below))),
  from_pairs make xs (tail_pairs (λ x y. name_of (make x) ≢ name_of (make y)) x xs pairs),
)

front_pairs : {X : Type 0} (R : X → X → Type 0) (xs ys : List X) → AllPairs R (xs ++ ys) → AllPairs R xs
front_pairs R xs ys pairs i j d before below =
    rw (get_or_append_left xs ys d i (omega (arith, before, below)), get_or_append_left xs ys d j below) at (pairs i j d before (omega (arith, below, length-append xs ys)))

back_pairs : {X : Type 0} (R : X → X → Type 0) (xs ys : List X) → AllPairs R (xs ++ ys) → AllPairs R ys
back_pairs R [] ys pairs = pairs
back_pairs R (x ∷ xs) ys pairs = back_pairs R xs ys (tail_pairs R x (xs ++ ys) pairs)

get_map : {X Y : Type 0} (f : X → Y) (xs : List X) (i : ℕ) (d : X) → get_or (map f xs) i (f d) ≡ f (get_or xs i d)
get_map f [] i d = refl
get_map f (x ∷ xs) zero d = refl
get_map f (x ∷ xs) (suc i) d = get_map f xs i d

map_pairs : {X Y : Type 0} (f : X → Y) (R : Y → Y → Type 0) (xs : List X) → AllPairs R (map f xs) → AllPairs (λ x y. R (f x) (f y)) xs
map_pairs f R xs pairs i j d before below =
    let h : R (get_or (map f xs) i (f d)) (get_or (map f xs) j (f d)) = pairs i j (f d) before (omega (arith, below, length-map xs f)) in
    subst (λ y. R y (f (get_or xs j d))) (get_map f xs i d) (subst (λ y. R (get_or (map f xs) i (f d)) y) (get_map f xs j d) h)

-- ---- rows of all kinds

skip : {X : Type 0} (make : X → TextRow) (xs : List X) (rest : List TextRow) (name : RowName) → ((x : X) → same_name name (name_of (make x)) ≡ false) → has_name name rest ≡ false → has_name name (map make xs ++ rest) ≡ false
skip make [] rest name other none = none
skip make (x ∷ xs) rest name other none = rw (other x) (skip make xs rest name other none)

behind : {X : Type 0} (make : X → TextRow) (xs : List X) (rest : List TextRow) (name : RowName) → has_name name (map make xs) ≡ false → has_name name rest ≡ false → has_name name (map make xs ++ rest) ≡ false
behind make [] rest name here none = none
behind make (x ∷ xs) rest name here none =
    let both = or_false (same_name name (name_of (make x))) (has_name name (map make xs)) here in
    rw both.0 (behind make xs rest name both.1 none)

block : {X : Type 0} (make : X → TextRow) (xs : List X) (rest : List TextRow) → NoneTwice make xs → ((x : X) → has_name (name_of (make x)) rest ≡ false) → DifferByName rest → DifferByName (map make xs ++ rest)
block make [] rest once other differ = differ
block make (x ∷ xs) rest once other differ = (behind make xs rest (name_of (make x)) once.0 (other x), block make xs rest once.1 other differ)

last_block : {X : Type 0} (make : X → TextRow) (xs : List X) → NoneTwice make xs → DifferByName (map make xs)
last_block make [] once = tt
last_block make (x ∷ xs) once = (once.0, last_block make xs once.1)

skip_last : {X : Type 0} (make : X → TextRow) (xs : List X) (name : RowName) → ((x : X) → same_name name (name_of (make x)) ≡ false) → has_name name (map make xs) ≡ false
skip_last make [] name other = refl
skip_last make (x ∷ xs) name other = rw (other x) (skip_last make xs name other)

same_node : (a b : Addr) → names.Node a ≡ names.Node b → a ≡ b
same_node a b e = cc

same_link : (a b : Addr) → names.Link a ≡ names.Link b → a ≡ b
same_link a b e = cc

same_out : (a b : Addr) → names.Out a ≡ names.Out b → a ≡ b
same_out a b e = cc

same_entry : (a b : Entry) → names.Entry a ≡ names.Entry b → a ≡ b
same_entry a b e = cc

pub rows_differ : (g : Rows) → IsTopology g → DifferByName (rows_in_order g)
rows_differ g is =
    let entries : DifferByName (map (λ e. rows.Entry e) g.entries) =
    last_block (λ e. rows.Entry e) g.entries (from_pairs (λ e. rows.Entry e) g.entries (λ i j d before below e. is.entries_differ i j d before below (same_entry _ _ e))) in
    let outs_apart : AllPairs (λ (o p : OutLink). o.link.far ≢ p.link.far) g.outs =
    map_pairs (λ (o : OutLink). o.link) (λ (l m : Link). l.far ≢ m.far) g.outs (back_pairs (λ (l m : Link). l.far ≢ m.far) g.links (map (λ (o : OutLink). o.link) g.outs) is.fars_differ) in
    let outs : DifferByName (map (λ o. rows.Out o) g.outs ++ map (λ e. rows.Entry e) g.entries) =
    block (λ o. rows.Out o) g.outs (map (λ e. rows.Entry e) g.entries) (from_pairs (λ o. rows.Out o) g.outs (λ i j d before below e. outs_apart i j d before below (same_out _ _ e)))
    (λ o. skip_last (λ e. rows.Entry e) g.entries (names.Out o.link.far) (λ e. refl)) entries in
    let links_apart : AllPairs (λ (l m : Link). l.far ≢ m.far) g.links = front_pairs (λ (l m : Link). l.far ≢ m.far) g.links (map (λ (o : OutLink). o.link) g.outs) is.fars_differ in
    let links : DifferByName (map (λ l. rows.Link l) g.links ++ (map (λ o. rows.Out o) g.outs ++ map (λ e. rows.Entry e) g.entries)) =
    block (λ l. rows.Link l) g.links (map (λ o. rows.Out o) g.outs ++ map (λ e. rows.Entry e) g.entries) (from_pairs (λ l. rows.Link l) g.links (λ i j d before below e. links_apart i j d before below (same_link _ _ e)))
    (λ l. skip (λ o. rows.Out o) g.outs (map (λ e. rows.Entry e) g.entries) (names.Link l.far) (λ o. refl) (skip_last (λ e. rows.Entry e) g.entries (names.Link l.far) (λ e. refl))) outs in
    block (λ n. rows.Node n) g.nodes (map (λ l. rows.Link l) g.links ++ (map (λ o. rows.Out o) g.outs ++ map (λ e. rows.Entry e) g.entries))
    (from_pairs (λ n. rows.Node n) g.nodes (λ i j d before below e. is.nodes_differ i j d before below (same_node _ _ e)))
    (λ n. skip (λ l. rows.Link l) g.links (map (λ o. rows.Out o) g.outs ++ map (λ e. rows.Entry e) g.entries) (names.Node n) (λ l. refl)
    (skip (λ o. rows.Out o) g.outs (map (λ e. rows.Entry e) g.entries) (names.Node n) (λ o. refl) (skip_last (λ e. rows.Entry e) g.entries (names.Node n) (λ e. refl)))) links
