-- Costs in blocks, as one is put, and the least of them.
use Rattle.std.proofs.Common.{◌≡◌, ◌≢◌, inl, inr, ℕ, ◌+◌, ◌-◌, ◌*◌, ◌/◌, ◌%◌, ◌<◌, ◌≤◌, List, Bool, true, false, length, drop, take, map, replicate, min, arith, refl, sym, ◌∙◌, ap, subst, None, Some}
use Rattle.std.specs.Prelude.{slice_set, nat_lt}
use Rattle.std.specs.declared.option.Option.{Option}
use Rattle.std.proofs.lemmas.Bool.{cases_lt, cases_eq, lt-ltb, ltb-true}
use Rattle.std.proofs.lemmas.Bool.Decides.{eqb_tells}
use Rattle.std.proofs.lemmas.List.{get_or-set_same, get_or-set_other, get_or-drop, get_or-take, get_or_past, get_or-map, get_or-replicate, length-map, length-replicate, length-take-le, length-drop, ext_get_or}
use Rattle.std.proofs.Math.ListN.{length-set}
use Rattle.dom_base.specs.declared.query.Label.{Label}
use Rattle.path_search.specs.declared.blocks.TheConstants.{NOTHING}
use Rattle.path_search.specs.Arcs.{label_at}
use Rattle.path_search.specs.Front.{cost_of, cost_at, IsLeastAt}
use Rattle.path_search.specs.Blocks.{num_at, cost_if, shown_cost, IsLeastNumber, IsLeastFrom, IsBlock, AreBlocks, AreMarked}

pub shown_is : (n m : ℕ) → shown_cost n ≡ Some m → n / 32 ≡ m
shown_is n m is = go (nat_lt n NOTHING) is
  where
    go : (b : Bool) → cost_if b n ≡ Some m → n / 32 ≡ m
    go true same = cc
    go false bad = cc

pub shown_below : (n : ℕ) → n < NOTHING → shown_cost n ≡ Some (n / 32)
shown_below n below = ap (λ b. cost_if b n) (lt-ltb n NOTHING below)

pub shown_none : (n : ℕ) → NOTHING ≤ n → shown_cost n ≡ None
shown_none n past = go (nat_lt n NOTHING) refl
  where
    go : (b : Bool) → nat_lt n NOTHING ≡ b → cost_if b n ≡ None
    go true is = absurd (let lt = ltb-true n NOTHING is in omega (arith, lt, past))
    go false is = refl

pub shown_small : (n m : ℕ) → shown_cost n ≡ Some m → m < NOTHING
shown_small n m is = go (nat_lt n NOTHING) refl is
  where
    go : (b : Bool) → nat_lt n NOTHING ≡ b → cost_if b n ≡ Some m → m < NOTHING
    go true lt same = let below = ltb-true n NOTHING lt in let one : n / 32 ≡ m = cc in omega (arith, below, one)
    go false lt bad = cc

pub shown_great : (n : ℕ) → shown_cost n ≡ None → NOTHING ≤ n
shown_great n is = elim (cases_lt n NOTHING) [ inl below ↦ let bad : Some (n / 32) ≡ None = sym (shown_below n below) ∙ is in cc | inr past ↦ past ]

-- the cost at a place
pub shown_at : (costs : List ℕ) (i : ℕ) → cost_at (map shown_cost costs) i ≡ shown_cost (num_at costs i)
shown_at costs i = elim (cases_lt i (length costs)) [
  | inl below ↦ get_or-map shown_cost costs i NOTHING None below
  | inr past ↦
      get_or_past (map shown_cost costs) i None (omega (arith, past, length-map costs shown_cost)) ∙ sym (ap shown_cost (get_or_past costs i NOTHING past) ∙ shown_none NOTHING (omega arith))
]

pub at_most_nothing : (numbers : List ℕ) (least : ℕ) → IsLeastNumber numbers least → least ≤ NOTHING
at_most_nothing numbers least is =
    let past : num_at numbers (length numbers) ≡ NOTHING = get_or_past numbers (length numbers) NOTHING (omega arith) in
    let bound = is.no_more (length numbers) in
    omega (arith, past, bound)

-- no cost is less than the least of all blocks
least_below : (costs least : List ℕ) (lowest j : ℕ) → AreBlocks costs least → IsLeastNumber least lowest → lowest ≤ NOTHING → lowest ≤ num_at costs j
least_below costs least lowest j blocks is small = elim (cases_lt j (length costs)) [
  | inl below ↦
      let inside : j / 32 < length least = omega (arith, below, blocks.enough) in
      let here = (blocks.each (j / 32) inside).no_more j (omega arith) (omega arith) in
      let all = is.no_more (j / 32) in
      omega (arith, here, all)
  | inr past ↦ let nothing : num_at costs j ≡ NOTHING = get_or_past costs j NOTHING past in omega (arith, nothing, small)
]

pub least_at : (costs least : List ℕ) (lowest place : ℕ) → AreBlocks costs least → IsLeastNumber least lowest → lowest < NOTHING → num_at costs place ≡ lowest →
    IsLeastAt (map shown_cost costs) place (lowest / 32)
least_at costs least lowest place blocks is small at = record {
  at = shown_at costs place ∙ (ap shown_cost at ∙ shown_below lowest small);
  least = λ j m at_j.
      let number : num_at costs j / 32 ≡ m = shown_is (num_at costs j) m (sym (shown_at costs j) ∙ at_j) in
      let bound = least_below costs least lowest j blocks is (omega (arith, small)) in
      omega (arith, number, bound);
}

pub none_left : (costs least : List ℕ) → AreBlocks costs least → IsLeastNumber least NOTHING → (i : ℕ) → cost_at (map shown_cost costs) i ≡ None
none_left costs least blocks is i = shown_at costs i ∙ shown_none (num_at costs i) (least_below costs least NOTHING i blocks is (omega arith))

-- a number that stands for a cost stands within
pub stands_within : (numbers : List ℕ) (i n : ℕ) → num_at numbers i ≡ n → n < NOTHING → i < length numbers
stands_within numbers i n at small = elim (cases_lt i (length numbers)) [
  | inl below ↦ below
  | inr past ↦ let nothing : num_at numbers i ≡ NOTHING = get_or_past numbers i NOTHING past in absurd (omega (arith, at, small, nothing))
]

-- a block is cut out
pub block_is : (costs : List ℕ) (start end : ℕ) → start ≤ length costs → end ≡ min (start + 32) (length costs) → IsBlock costs start (take (end - start) (drop start costs))
block_is costs start end from is =
    let rest : length (drop start costs) ≡ length costs - start = length-drop start costs in
    let long : length (take (end - start) (drop start costs)) ≡ end - start = length-take-le (end - start) (drop start costs) (omega (arith, rest, is)) in
    record {
      few = omega (arith, long, is);
      within = omega (arith, long, is, from);
      same = λ i below. elim (cases_lt i (end - start)) [
        | inl lt ↦ get_or-take (end - start) (drop start costs) i NOTHING lt ∙ get_or-drop start costs i NOTHING
        | inr ge ↦
            get_or_past (take (end - start) (drop start costs)) i NOTHING (omega (arith, long, ge))
            ∙ sym (get_or_past costs (start + i) NOTHING (omega (arith, ge, is, below)))
      ];
    }

-- the least of a block that is cut out is that of the block
pub of_block : (costs block : List ℕ) (start least : ℕ) → IsBlock costs start block → IsLeastNumber block least → IsLeastFrom costs start least
of_block costs block start least cut is = record {
  no_more = λ i from to.
      let at : num_at block (i - start) ≡ num_at costs (start + (i - start)) = cut.same (i - start) (omega (arith, from, to)) in
      let there : start + (i - start) ≡ i = omega (arith, from) in
      let here : num_at costs (start + (i - start)) ≡ num_at costs i = ap (num_at costs) there in
      let less = is.no_more (i - start) in
      omega (arith, at, here, less);
  stands = λ small.
      let s = is.stands small in
      let within = stands_within block s.0 least s.1 small in
      let below : s.0 < 32 = omega (arith, within, cut.few) in
      record { place = start + s.0; from = omega arith; to = omega (arith, below); at = sym (cut.same s.0 below) ∙ s.1 };
}

elsewhere : (costs : List ℕ) (place number start least : ℕ) → (start ≤ place → place < start + 32 → ⊥) → IsLeastFrom costs start least → IsLeastFrom (slice_set costs place number) start least
elsewhere costs place number start least out is = record {
  no_more = λ i from to.
      let same : num_at (slice_set costs place number) i ≡ num_at costs i = get_or-set_other costs place i number NOTHING (λ one. out (omega (arith, one, from)) (omega (arith, one, to))) in
      omega (arith, same, is.no_more i from to);
  stands = λ small.
      let s = is.stands small in
      record {
        place = s.place;
        from = s.from;
        to = s.to;
        at = get_or-set_other costs place s.place number NOTHING (λ one. out (omega (arith, one, s.from)) (omega (arith, one, s.to))) ∙ s.at;
      };
}

-- a number below the least of its block is the new least
pub lowered : (costs : List ℕ) (place number start least : ℕ) → start ≤ place → place < start + 32 → place < length costs → number < least → IsLeastFrom costs start least →
    IsLeastFrom (slice_set costs place number) start number
lowered costs place number start least from_place to_place below less is =
    let here : num_at (slice_set costs place number) place ≡ number = get_or-set_same costs place number NOTHING below in
    record {
      no_more = λ i from to. elim (cases_eq i place) [
        | inl one ↦ let there : num_at (slice_set costs place number) i ≡ number = ap (num_at (slice_set costs place number)) one ∙ here in omega (arith, there)
        | inr other ↦
            let same : num_at (slice_set costs place number) i ≡ num_at costs i = get_or-set_other costs place i number NOTHING other in
            omega (arith, same, is.no_more i from to, less)
      ];
      stands = λ _. record { place = place; from = from_place; to = to_place; at = here };
    }

-- where another number was the least, it stays that
pub kept : (costs : List ℕ) (place number start least : ℕ) → place < length costs → least ≤ number → num_at costs place ≢ least → IsLeastFrom costs start least →
    IsLeastFrom (slice_set costs place number) start least
kept costs place number start least below no_less differs is = record {
  no_more = λ i from to. elim (cases_eq i place) [
    | inl one ↦
        let there : num_at (slice_set costs place number) i ≡ number = ap (num_at (slice_set costs place number)) one ∙ get_or-set_same costs place number NOTHING below in
        omega (arith, there, no_less)
    | inr other ↦
        let same : num_at (slice_set costs place number) i ≡ num_at costs i = get_or-set_other costs place i number NOTHING other in
        omega (arith, same, is.no_more i from to)
  ];
  stands = λ small.
      let s = is.stands small in
      record {
        place = s.place;
        from = s.from;
        to = s.to;
        at = get_or-set_other costs place s.place number NOTHING (λ one. differs (ap (num_at costs) (sym one) ∙ s.at)) ∙ s.at;
      };
}

-- a number is put that tells its place
pub put_marked : (costs : List ℕ) (place number : ℕ) → AreMarked costs → place < length costs → (number < NOTHING → number % 32 ≡ place % 32) → AreMarked (slice_set costs place number)
put_marked costs place number are below tells i small = elim (cases_eq i place) [
  | inl one ↦
      let here : num_at (slice_set costs place number) i ≡ number = ap (num_at (slice_set costs place number)) one ∙ get_or-set_same costs place number NOTHING below in
      omega (arith, here, one, tells (omega (arith, here, small)))
  | inr other ↦
      let same : num_at (slice_set costs place number) i ≡ num_at costs i = get_or-set_other costs place i number NOTHING other in
      omega (arith, same, are i (omega (arith, same, small)))
]

-- the least tells its place
pub told_place : (costs : List ℕ) (block lowest : ℕ) → AreMarked costs → IsLeastFrom costs (block * 32) lowest → lowest < NOTHING →
    (num_at costs (block * 32 + lowest % 32) ≡ lowest)
told_place costs block lowest are is small =
    let s = is.stands small in
    let mark : num_at costs s.place % 32 ≡ s.place % 32 = are s.place (omega (arith, s.at, small)) in
    let there : block * 32 + lowest % 32 ≡ s.place = omega (arith, s.at, s.from, s.to, mark) in
    ap (num_at costs) there ∙ s.at

-- one block has a new least, the others keep theirs
pub put_blocks : (costs least next : List ℕ) (place number block top : ℕ) → AreBlocks costs least → block ≡ place / 32 → length next ≡ length least →
    num_at next block ≡ top → ((b : ℕ) → b ≢ block → num_at next b ≡ num_at least b) → IsLeastFrom (slice_set costs place number) (block * 32) top →
    AreBlocks (slice_set costs place number) next
put_blocks costs least next place number block top blocks of long here others is =
    let same : length (slice_set costs place number) ≡ length costs = simp length-set in
    record {
      enough = omega (arith, same, long, blocks.enough);
      no_further = omega (arith, same, long, blocks.no_further);
      each = λ b inside. elim (cases_eq b block) [
        | inl one ↦
            subst (λ k. IsLeastFrom (slice_set costs place number) (k * 32) (num_at next k)) (sym one)
            (subst (IsLeastFrom (slice_set costs place number) (block * 32)) (sym here) is)
        | inr other ↦
            subst (IsLeastFrom (slice_set costs place number) (b * 32)) (sym (others b other))
            (elsewhere costs place number (b * 32) (num_at least b) (λ from to. other (omega (arith, of, from, to))) (blocks.each b (omega (arith, inside, long))))
      ];
    }

nothing_at : (m j : ℕ) → num_at (replicate m NOTHING) j ≡ NOTHING
nothing_at m j = elim (cases_lt j m) [
  | inl below ↦ get_or-replicate m j NOTHING NOTHING below
  | inr past ↦ get_or_past (replicate m NOTHING) j NOTHING (omega (arith, past, length-replicate {A = ℕ} m NOTHING))
]

pub no_blocks : (n : ℕ) → AreBlocks (replicate n NOTHING) (replicate (n / 32 + 1) NOTHING)
no_blocks n =
    let costs : length (replicate n NOTHING) ≡ n = length-replicate {A = ℕ} n NOTHING in
    let least : length (replicate (n / 32 + 1) NOTHING) ≡ n / 32 + 1 = length-replicate {A = ℕ} (n / 32 + 1) NOTHING in
    record {
      enough = omega (arith, costs, least);
      no_further = omega (arith, costs, least);
      each = λ b _. record {
        no_more = λ i _ _. omega (arith, nothing_at n i, nothing_at (n / 32 + 1) b);
        stands = λ small. absurd (omega (arith, small, nothing_at (n / 32 + 1) b));
      };
    }

pub none_marked : (n : ℕ) → AreMarked (replicate n NOTHING)
none_marked n i small = absurd (omega (arith, small, nothing_at n i))

pub all_nothing : (n : ℕ) → map shown_cost (replicate n NOTHING) ≡ replicate n None
all_nothing n =
    let none : Option ℕ = None in
    let numbers : length (replicate n NOTHING) ≡ n = length-replicate {A = ℕ} n NOTHING in
    let long : length (map shown_cost (replicate n NOTHING)) ≡ n = length-map (replicate n NOTHING) shown_cost ∙ numbers in
    ext_get_or none (map shown_cost (replicate n NOTHING)) (replicate n none) (long ∙ sym (length-replicate {A = Option ℕ} n none))
    (λ i below.
    let inside : i < n = omega (arith, below, long) in
    get_or-map shown_cost (replicate n NOTHING) i NOTHING none (omega (arith, inside, numbers)) ∙ ap shown_cost (get_or-replicate n i NOTHING NOTHING inside)
    ∙ (shown_none NOTHING (omega arith) ∙ sym (get_or-replicate n i none none inside)))

-- the costs of labels are put one after another
pub record IsPutUpTo (labels : List (Option Label)) (waiting : List (Option ℕ)) (i : ℕ) : Type 0 where
  pub long : length waiting ≡ length labels
  pub before : (j : ℕ) → j < i → cost_at waiting j ≡ cost_of (label_at labels j)
  pub behind : (j : ℕ) → i ≤ j → cost_at waiting j ≡ None

pub none_put : (labels : List (Option Label)) → IsPutUpTo labels (replicate (length labels) None) 0
none_put labels = record {
  long = length-replicate {A = Option ℕ} (length labels) None;
  before = λ j up. absurd (omega (arith, up));
  behind = λ j _. elim (cases_lt j (length labels)) [
    | inl below ↦ get_or-replicate (length labels) j None None below
    | inr past ↦ get_or_past (replicate (length labels) None) j None (omega (arith, past, length-replicate {A = Option ℕ} (length labels) None))
  ];
}

pub none_more : (labels : List (Option Label)) (waiting : List (Option ℕ)) (i : ℕ) → cost_of (label_at labels i) ≡ None → IsPutUpTo labels waiting i →
    IsPutUpTo labels waiting (i + 1)
none_more labels waiting i none put = record {
  long = put.long;
  before = λ j up. elim (eqb_tells j i) [
    | inl same ↦ put.behind j (omega (arith, same.1)) ∙ sym (ap (λ k. cost_of (label_at labels k)) same.1 ∙ none)
    | inr other ↦ put.before j (omega (arith, up, other.1))
  ];
  behind = λ j from. put.behind j (omega (arith, from));
}

pub put_more : (labels : List (Option Label)) (waiting next : List (Option ℕ)) (i : ℕ) (cost : Option ℕ) → i < length labels → cost ≡ cost_of (label_at labels i) →
    IsPutUpTo labels waiting i → next ≡ slice_set waiting i cost → IsPutUpTo labels next (i + 1)
put_more labels waiting next i cost below at put is = record {
  long = (ap length is ∙ simp length-set) ∙ put.long;
  before = λ j up. elim (eqb_tells j i) [
    | inl same ↦
        let here : cost_at next i ≡ cost = rw is (get_or-set_same waiting i cost None (omega (arith, below, put.long))) in
        ap (cost_at next) same.1 ∙ (here ∙ (at ∙ ap (λ k. cost_of (label_at labels k)) (sym same.1)))
    | inr other ↦
        let there : cost_at next j ≡ cost_at waiting j = rw is (get_or-set_other waiting i j cost None other.1) in
        there ∙ put.before j (omega (arith, up, other.1))
  ];
  behind = λ j from.
      let other : j ≢ i = λ same. omega (arith, same, from) in
      let there : cost_at next j ≡ cost_at waiting j = rw is (get_or-set_other waiting i j cost None other) in
      there ∙ put.behind j (omega (arith, from));
}

pub put_all : (labels : List (Option Label)) (waiting : List (Option ℕ)) (i : ℕ) → length labels ≤ i → IsPutUpTo labels waiting i → waiting ≡ map cost_of labels
put_all labels waiting i past put =
    let long : length (map cost_of labels) ≡ length labels = length-map labels cost_of in
    ext_get_or None waiting (map cost_of labels) (put.long ∙ sym long)
    (λ j below. put.before j (omega (arith, below, past, put.long)) ∙ sym (get_or-map cost_of labels j None None (omega (arith, below, put.long))))
