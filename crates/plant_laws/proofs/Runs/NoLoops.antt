-- No link leads from the parent to itself.
use Rattle.std.proofs.Common.{◌≡◌, ◌≢◌, nat_lt, Bool, true, false, cond, List, [], ◌∷◌, ◌++◌, sym, ◌∙◌, ap, refl, arith}
use Rattle.std.specs.Prelude.{All}
use Rattle.std.specs.List.{AllByRecursion}
use Rattle.std.proofs.lemmas.List.Elements.{All-head, All-tail}
use Rattle.plant_model.specs.Types.{As, NetworkParts}
use Rattle.plant_text.specs.Names.{same_as, same_link, parent_as}
use Rattle.plant_text.specs.Settings.{children, Adjacency, adjacency, before_adjacency, insert_adjacency, sorted, upward, adjacencies, has_adjacency, is_linked, is_element}
use Rattle.plant_model.specs.Laws.{IsNetwork}
use Rattle.plant_laws.proofs.WrittenForm.ParentSays.{is_family, IsNumber}
use Rattle.plant_laws.proofs.Runs.Queues.{same_as_is}

abbrev IsLoop : Adjacency → Type 0
IsLoop x = (x.lower ≡ parent_as) × (x.upper ≡ parent_as)

loop_of : (x : Adjacency) → same_link x.lower x.upper parent_as parent_as ≡ true → IsLoop x
loop_of x e = go (same_as x.lower parent_as) refl (same_as x.upper parent_as) refl e
  where
    go : (a : Bool) → same_as x.lower parent_as ≡ a → (b : Bool) → same_as x.upper parent_as ≡ b → cond a b (cond a b false) ≡ true → IsLoop x
    go true is true is' e' = (same_as_is x.lower parent_as is, same_as_is x.upper parent_as is')
    go true is false is' e' = absurd (let clash : false ≡ true = e' in cc)
    go false is b is' e' = absurd (let clash : false ≡ true = e' in cc)

abbrev NoLoops : List Adjacency → Type 0
NoLoops [] = Unit {0}
NoLoops (x ∷ xs) = (¬ IsLoop x) × NoLoops xs

loops_append : (xs ys : List Adjacency) → NoLoops xs → NoLoops ys → NoLoops (xs ++ ys)
loops_append [] ys h k = k
loops_append (x ∷ xs) ys h k = (h.0, loops_append xs ys h.1 k)

none_linked : (xs : List Adjacency) → NoLoops xs → has_adjacency parent_as parent_as xs ≡ true → ⊥
none_linked [] none e = (let clash : false ≡ true = e in cc)
none_linked (x ∷ xs) none e = go (same_link x.lower x.upper parent_as parent_as) refl e (none_linked xs none.1)
  where
    go : (b : Bool) → same_link x.lower x.upper parent_as parent_as ≡ b → cond b true (has_adjacency parent_as parent_as xs) ≡ true → (has_adjacency parent_as parent_as xs ≡ true → ⊥) → ⊥
    go true is e' rec = none.0 (loop_of x is)
    go false is e' rec = rec e'

upward_none : (cs : List As) → AllByRecursion IsNumber cs → NoLoops (upward cs)
upward_none [] all = tt
upward_none (a ∷ cs) all = ((λ loop. (let zero : a.0 ≡ 0 = ap (λ (z : As). z.0) loop.1 in let some = all.0.0 in omega (arith, zero, some))), upward_none cs all.1)

inserted_none : (x : Adjacency) (ys : List Adjacency) → ¬ IsLoop x → NoLoops ys → NoLoops (insert_adjacency x ys)
inserted_none x [] none all = (none, tt)
inserted_none x (y ∷ ys) none all = go (before_adjacency x y) (inserted_none x ys none all.1)
  where
    go : (b : Bool) → NoLoops (insert_adjacency x ys) → NoLoops (cond b (x ∷ y ∷ ys) (y ∷ insert_adjacency x ys))
    go true more = (none, all)
    go false more = (all.0, more)

adjacency_none : (a b : As) → a ≢ b → ¬ IsLoop (adjacency a b)
adjacency_none a b other = go (nat_lt b.0 a.0)
  where
    go : (t : Bool) → ¬ IsLoop (cond t (record { lower = b; upper = a }) (record { lower = a; upper = b }))
    go true loop = other (loop.1 ∙ sym loop.0)
    go false loop = other (loop.0 ∙ sym loop.1)

sorted_none : (n : NetworkParts) (ps : List (As × As)) → All (λ (p : As × As). (is_element n p.0 ≡ true) × (is_element n p.1 ≡ true) × (p.0 ≢ p.1)) ps → NoLoops (sorted ps)
sorted_none n [] all = tt
sorted_none n (p ∷ ps) all =
    let first = All-head (λ (p : As × As). (is_element n p.0 ≡ true) × (is_element n p.1 ≡ true) × (p.0 ≢ p.1)) p ps all in
    inserted_none (adjacency p.0 p.1) (sorted ps) (adjacency_none p.0 p.1 first.2)
    (sorted_none n ps (All-tail (λ (p : As × As). (is_element n p.0 ≡ true) × (is_element n p.1 ≡ true) × (p.0 ≢ p.1)) p ps all))

pub not_to_itself : (n : NetworkParts) → IsNetwork n → is_linked n parent_as parent_as ≡ true → ⊥
not_to_itself n net = none_linked (adjacencies n) (loops_append (upward (children n)) (sorted n.links) (upward_none (children n) (is_family n net).children) (sorted_none n n.links net.links))
