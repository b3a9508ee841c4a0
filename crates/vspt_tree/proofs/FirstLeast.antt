-- The branch of least cost of a node, found by looking through the branches, is the first of the least.
use Rattle.std.proofs.Common.{◌≡◌, ◌==◌, ◌≤◌, ◌<◌, ℕ, Bool, true, false, cond, nat_lt, List, [], ◌∷◌, ◌++◌, Option, Some, None, ◌∙◌, ap, subst, refl}
use Rattle.std.specs.Prelude.{All}
use Rattle.std.proofs.lemmas.Bool.{eqb-true, eq-eqb, lt-ltb, le-ltb}
use Rattle.std.proofs.lemmas.List.Elements.{All-head, All-tail}
use Rattle.dom_base.specs.AddrOrder.{rank}
use Rattle.dom_base.proofs.Ranks.{same_addr}
use Rattle.dom_base.specs.declared.addr.Addr.{Addr}
use Rattle.vspt_tree.specs.declared.branch.Branch.{Branch}
use Rattle.vspt_tree.specs.Branches.{IsFirstLeast, better, first_least}

-- the first of least cost among branches that all cost at least so much
abbrev NoLess : Addr → ℕ → Branch → Type 0
NoLess n c d = d.entry ≡ n → c ≤ d.cost

abbrev Above : Addr → ℕ → Branch → Type 0
Above n c d = d.entry ≡ n → c < d.cost

same_entry : (a b : Addr) → (rank a == rank b) ≡ true → a ≡ b
same_entry a b e = same_addr a b (eqb-true (rank a) (rank b) e)

-- the least that was found stays the least where a branch of no lesser cost stands before it
stays_least : (n : Addr) (c : ℕ) (y : Branch) (o : Option Branch) → c ≤ y.cost → ((x : Branch) → o ≡ Some x → c ≤ x.cost) → (x : Branch) → better y o ≡ Some x → c ≤ x.cost
stays_least n c y None low below x e = let same : y ≡ x = cc in subst (λ (d : Branch). c ≤ d.cost) same low
stays_least n c y (Some z) low below x e = go (nat_lt z.cost y.cost) e
  where
    go : (b : Bool) → cond b (Some z) (Some y) ≡ Some x → c ≤ x.cost
    go true e' = below x e'
    go false e' = let same : y ≡ x = cc in subst (λ (d : Branch). c ≤ d.cost) same low

least_is_no_less : (c : ℕ) (n : Addr) (xs : List Branch) → All (NoLess n c) xs → (x : Branch) → first_least n xs ≡ Some x → c ≤ x.cost
least_is_no_less c n [] all x e = absurd (none e)
  where
    none : ◌≡◌ {A = Option Branch} None (Some x) → ⊥
    none e' = cc
least_is_no_less c n (y ∷ ys) all x e = go ((rank y.entry == rank n)) refl (least_is_no_less c n ys (All-tail (NoLess n c) y ys all)) e
  where
    go : (b : Bool) → (rank y.entry == rank n) ≡ b → ((z : Branch) → first_least n ys ≡ Some z → c ≤ z.cost) → cond b (better y (first_least n ys)) (first_least n ys) ≡ Some x → c ≤ x.cost
    go true at more e' = stays_least n c y (first_least n ys) (All-head (NoLess n c) y ys all (same_entry y.entry n at)) more x e'
    go false at more e' = more x e'

-- a branch that costs at most as much as the least behind it
leads : (b : Branch) (o : Option Branch) → ((x : Branch) → o ≡ Some x → b.cost ≤ x.cost) → better b o ≡ Some b
leads b None low = refl
leads b (Some x) low = ap (λ (t : Bool). cond t (Some x) (Some b)) (le-ltb x.cost b.cost (low x refl))

trails : (y b : Branch) → b.cost < y.cost → better y (Some b) ≡ Some b
trails y b less = ap (λ (t : Bool). cond t (Some b) (Some y)) (lt-ltb b.cost y.cost less)

first_is : (n : Addr) (before after : List Branch) (b : Branch) → b.entry ≡ n → All (Above n b.cost) before → All (NoLess n b.cost) after → first_least n (before ++ b ∷ after) ≡ Some b
first_is n [] after b at above no_less =
    ap (λ (t : Bool). cond t (better b (first_least n after)) (first_least n after)) (eq-eqb (rank b.entry) (rank n) (ap rank at))
    ∙ leads b (first_least n after) (least_is_no_less b.cost n after no_less)
first_is n (y ∷ before) after b at above no_less =
    ap (λ (o : Option Branch). cond ((rank y.entry == rank n)) (better y o) o) (first_is n before after b at (All-tail (Above n b.cost) y before above) no_less)
    ∙ go ((rank y.entry == rank n)) refl
  where
    go : (t : Bool) → (rank y.entry == rank n) ≡ t → cond t (better y (Some b)) (Some b) ≡ Some b
    go true is = trails y b (All-head (Above n b.cost) y before above (same_entry y.entry n is))
    go false is = refl

pub first_least_is : (down : List Branch) (n : Addr) (b : Branch) → IsFirstLeast down n b → first_least n down ≡ Some b
first_least_is down n b is = ap (λ (xs : List Branch). first_least n xs) is.is ∙ first_is n is.before is.after b is.at_node is.above is.no_less
