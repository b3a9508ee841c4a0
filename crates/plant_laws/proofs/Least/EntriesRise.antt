-- The entries of a job rise.
use Rattle.std.proofs.Common.{◌≡◌, ◌<◌, ℕ, suc, Bool, true, false, cond, nat_lt, List, [], ◌∷◌, map, filter, inl, inr, refl, arith}
use Rattle.std.specs.Prelude.{All, AllPairs}
use Rattle.std.proofs.lemmas.Bool.{eqb-true, eqb-false, ltb-true, ltb-false}
use Rattle.std.proofs.lemmas.List.Elements.{All-head, All-tail, All-nil, All-cons}
use Rattle.std.proofs.lemmas.List.Kept.{AllPairs-cons}
use Rattle.plant_model.specs.Types.{Addr, As, Entry, Class}
use Rattle.te_links.specs.Rows.{Rows, IsInOrder, IsEntryBefore}
use Rattle.disclosure.specs.declared.class.Class.TheVariants.{Client, Neighbour, Parent}
use Rattle.plant_text.specs.Names.{same_as}
use Rattle.plant_model.specs.Names.{same_addr}
use Rattle.plant_model.specs.Rising.{has_addr, insert_addr}
use Rattle.plant_model.specs.Jobs.{entry_nodes, entries_of}
use Rattle.dom_base.specs.AddrOrder.{rank}

abbrev pub Under : Addr → Addr → Type 0
Under x y = rank x < rank y

abbrev Over : ℕ → Addr → Type 0
Over x y = x < rank y

below_none : (j : ℕ) → j < 0 → ⊥
below_none j less = omega (arith, less)

pairs_nil : AllPairs Under []
pairs_nil i j d less within = absurd (below_none j within)

pairs_head : {X : Type 0} (R : X → X → Type 0) (e : X) (es : List X) → AllPairs R (e ∷ es) → All (R e) es
pairs_head R e es h k d within = h 0 (suc k) d (omega arith) (omega (arith, within))

pairs_tail : {X : Type 0} (R : X → X → Type 0) (e : X) (es : List X) → AllPairs R (e ∷ es) → AllPairs R es
pairs_tail R e es h i j d less within = h (suc i) (suc j) d (omega (arith, less)) (omega (arith, within))

-- entries from one neighbour
abbrev nodes_from : As → List Entry → List Addr
nodes_from a es = map (λ (e : Entry). e.node) (filter (λ (e : Entry). same_as e.from_as a) es)

from_over : (a : As) (e : Entry) (es : List Entry) → same_as e.from_as a ≡ true → All (IsEntryBefore e) es → All (Over (rank e.node)) (nodes_from a es)
from_over a e [] is all = All-nil (Over (rank e.node))
from_over a e (y ∷ ys) is all = go (same_as y.from_as a) refl (from_over a e ys is (All-tail (IsEntryBefore e) y ys all))
  where
    less : same_as y.from_as a ≡ true → IsEntryBefore e y → (rank e.node) < (rank y.node)
    less is' (inl apart) = let p = eqb-true e.from_as.0 a.0 is in let q = eqb-true y.from_as.0 a.0 is' in absurd (omega (arith, p, q, apart))
    less is' (inr same) = same.1

    go : (b : Bool) → same_as y.from_as a ≡ b → All (Over (rank e.node)) (nodes_from a ys) → All (Over (rank e.node)) (map (λ (z : Entry). z.node) (cond b (y ∷ filter (λ (z : Entry). same_as z.from_as a) ys) (filter (λ (z : Entry). same_as z.from_as a) ys)))
    go true is' more = All-cons (Over (rank e.node)) y.node (nodes_from a ys) (less is' (All-head (IsEntryBefore e) y ys all)) more
    go false is' more = more

from_rises : (a : As) (es : List Entry) → AllPairs IsEntryBefore es → AllPairs Under (nodes_from a es)
from_rises a [] up = pairs_nil
from_rises a (e ∷ es) up = go (same_as e.from_as a) refl (from_rises a es (pairs_tail IsEntryBefore e es up))
  where
    go : (b : Bool) → same_as e.from_as a ≡ b → AllPairs Under (nodes_from a es) → AllPairs Under (map (λ (z : Entry). z.node) (cond b (e ∷ filter (λ (z : Entry). same_as z.from_as a) es) (filter (λ (z : Entry). same_as z.from_as a) es)))
    go true is more = AllPairs-cons Under e.node (nodes_from a es) (from_over a e es is (pairs_head IsEntryBefore e es up)) more
    go false is more = more

-- a node put into its place
insert_over : (x : ℕ) (n : Addr) (xs : List Addr) → x < (rank n) → All (Over x) xs → All (Over x) (insert_addr n xs)
insert_over x n [] less all = All-cons (Over x) n [] less (All-nil (Over x))
insert_over x n (a ∷ rest) less all = go (nat_lt (rank n) (rank a)) (same_addr n a) (insert_over x n rest less (All-tail (Over x) a rest all))
  where
    go : (b d : Bool) → All (Over x) (insert_addr n rest) → All (Over x) (cond b (n ∷ a ∷ rest) (cond d (a ∷ rest) (a ∷ insert_addr n rest)))
    go true d more = All-cons (Over x) n (a ∷ rest) less all
    go false true more = all
    go false false more = All-cons (Over x) a (insert_addr n rest) (All-head (Over x) a rest all) more

further : (x y : ℕ) (xs : List Addr) → x < y → All (Over y) xs → All (Over x) xs
further x y [] less all = All-nil (Over x)
further x y (a ∷ rest) less all =
    let h = All-head (Over y) a rest all in
    All-cons (Over x) a rest (omega (arith, less, h)) (further x y rest less (All-tail (Over y) a rest all))

insert_rises : (n : Addr) (xs : List Addr) → AllPairs Under xs → AllPairs Under (insert_addr n xs)
insert_rises n [] up = AllPairs-cons Under n [] (All-nil (Under n)) up
insert_rises n (a ∷ rest) up = go (nat_lt (rank n) (rank a)) refl (same_addr n a) refl (insert_rises n rest (pairs_tail Under a rest up))
  where
    go : (b : Bool) → nat_lt (rank n) (rank a) ≡ b → (d : Bool) → same_addr n a ≡ d → AllPairs Under (insert_addr n rest) → AllPairs Under (cond b (n ∷ a ∷ rest) (cond d (a ∷ rest) (a ∷ insert_addr n rest)))
    go true is d is' more =
        let less = ltb-true (rank n) (rank a) is in
        AllPairs-cons Under n (a ∷ rest) (All-cons (Over (rank n)) a rest less (further (rank n) (rank a) rest less (pairs_head Under a rest up))) up
    go false is true is' more = up
    go false is false is' more =
        let no_less = ltb-false (rank n) (rank a) is in
        let apart = eqb-false (rank n) (rank a) is' in
        AllPairs-cons Under a (insert_addr n rest) (insert_over (rank a) n rest (omega (arith, no_less, apart)) (pairs_head Under a rest up)) more

pub nodes_rise : (es : List Entry) → AllPairs Under (entry_nodes es)
nodes_rise [] = pairs_nil
nodes_rise (e ∷ es) = insert_rises e.node (entry_nodes es) (nodes_rise es)

pub entries_rise : (class : Class) (source : Addr) (g : Rows) → IsInOrder g → AllPairs Under (entries_of class source g)
entries_rise (Client may) source g order = AllPairs-cons Under source [] (All-nil (Under source)) pairs_nil
entries_rise (Neighbour a) source g order = from_rises a g.entries order.entries
entries_rise Parent source g order = go (has_addr source g.nodes)
  where
    go : (b : Bool) → AllPairs Under (cond b (insert_addr source (entry_nodes g.entries)) (entry_nodes g.entries))
    go true = insert_rises source (entry_nodes g.entries) (nodes_rise g.entries)
    go false = nodes_rise g.entries
