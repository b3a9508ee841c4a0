-- Two lists with the same elements, both in strict order, are one.
use Rattle.std.proofs.Common.{◌≡◌, ℕ, zero, suc, ◌<◌, ◌⊎◌, inl, inr, List, [], ◌∷◌, length, get_or, refl, sym, ap, subst, ◌∙◌, arith}
use Rattle.std.specs.List.{AllByRecursion, AllPairs, Contains}
use Rattle.std.specs.List.Sorted.{IsPermutation}
use Rattle.std.proofs.lemmas.List.Elements.{recursion_from_All}
use Rattle.std.proofs.lemmas.List.Sorted.{Contains-permutation, IsPermutation-sym}
use Rattle.dom_base.specs.AddrOrder.{rank}
use Rattle.dom_base.specs.declared.names.As.{As}
use Rattle.dom_base.specs.declared.addr.Addr.{Addr}
use Rattle.dom_base.specs.declared.link.Link.{Link}
use Rattle.te_links.specs.declared.rows.OutLink.{OutLink}
use Rattle.te_links.specs.declared.rows.Entry.{Entry}
use Rattle.te_links.specs.Rows.{Rows, IsInOrder, IsEntryBefore}
use Rattle.te_links.specs.Built.{IsBuilt}

abbrev In : {X : Type 0} → X → List X → Type 0
In x [] = ⊥
In x (y ∷ ys) = (y ≡ x) ⊎ In x ys

abbrev Ordered : {X : Type 0} → (X → X → Type 0) → List X → Type 0
Ordered R [] = Unit {0}
Ordered R (x ∷ xs) = AllByRecursion (R x) xs × Ordered R xs

in_from : {X : Type 0} (xs : List X) (x : X) (k : ℕ) → k < length xs → get_or xs k x ≡ x → In x xs
in_from [] x k lt e = absurd (omega arith)
in_from (y ∷ ys) x zero lt e = inl e
in_from (y ∷ ys) x (suc k) lt e = inr (in_from ys x k (omega arith) e)

contains_from : {X : Type 0} (xs : List X) (x : X) → In x xs → Contains xs x
contains_from [] x h = absurd h
contains_from (y ∷ ys) x (inl e) = (0, omega arith, e)
contains_from (y ∷ ys) x (inr h) = let c = contains_from ys x h in let lt = c.1 in (suc c.0, omega arith, c.2)

moved : {X : Type 0} (xs ys : List X) (x : X) → IsPermutation xs ys → In x xs → In x ys
moved xs ys x p h = let c = Contains-permutation xs ys x p (contains_from xs x h) in in_from ys x c.0 c.1 c.2

ordered_from : {X : Type 0} (R : X → X → Type 0) (xs : List X) → AllPairs R xs → Ordered R xs
ordered_from R [] h = tt
ordered_from R (x ∷ xs) h = (recursion_from_All (R x) xs (λ k d lt. h 0 (suc k) d (omega arith) (omega arith)), ordered_from R xs (λ i j d lt len. h (suc i) (suc j) d (omega arith) (omega arith)))

at_in : {X : Type 0} (P : X → Type 0) (xs : List X) (x : X) → AllByRecursion P xs → In x xs → P x
at_in P [] x h i = absurd i
at_in P (y ∷ ys) x h (inl e) = subst P e h.0
at_in P (y ∷ ys) x h (inr i) = at_in P ys x h.1 i

record IsStrict {X : Type 0} (R : X → X → Type 0) : Type 0 where
  never : (x : X) → R x x → ⊥
  through : (x y z : X) → R x y → R y z → R x z

same_head : {X : Type 0} (R : X → X → Type 0) → IsStrict R → (x y : X) (xs ys : List X) → AllByRecursion (R x) xs → AllByRecursion (R y) ys
    → (y ≡ x) ⊎ In x ys → (x ≡ y) ⊎ In y xs → x ≡ y
same_head R s x y xs ys h k (inl e) other = sym e
same_head R s x y xs ys h k (inr i) (inl e) = e
same_head R s x y xs ys h k (inr i) (inr j) = absurd (s.never x (s.through x y x (at_in (R x) xs y h j) (at_in (R y) ys x k i)))

behind_head : {X : Type 0} (R : X → X → Type 0) → IsStrict R → (x y z : X) (ys : List X) → R x z → x ≡ y → (y ≡ z) ⊎ In z ys → In z ys
behind_head R s x y z ys r e (inl same) = absurd (s.never x (subst (R x) (sym (e ∙ same)) r))
behind_head R s x y z ys r e (inr i) = i

unique : {X : Type 0} (R : X → X → Type 0) → IsStrict R → (xs ys : List X) → Ordered R xs → Ordered R ys → ((z : X) → In z xs → In z ys) → ((z : X) → In z ys → In z xs) → xs ≡ ys
unique R s [] [] h k f g = refl
unique R s [] (y ∷ ys) h k f g = absurd (g y (inl refl))
unique R s (x ∷ xs) [] h k f g = absurd (f x (inl refl))
unique R s (x ∷ xs) (y ∷ ys) h k f g =
    let same : x ≡ y = same_head R s x y xs ys h.0 k.0 (f x (inl refl)) (g y (inl refl)) in
    let tails : xs ≡ ys = unique R s xs ys h.1 k.1
    (λ z i. behind_head R s x y z ys (at_in (R x) xs z h.0 i) same (f z (inr i)))
    (λ z i. behind_head R s y x z xs (at_in (R y) ys z k.0 i) (sym same) (g z (inr i))) in
    ap (λ z. z ∷ xs) same ∙ ap (λ zs. y ∷ zs) tails

-- both are orders of one list
both : {X : Type 0} (R : X → X → Type 0) → IsStrict R → (given xs ys : List X) → AllPairs R xs → AllPairs R ys → IsPermutation given xs → IsPermutation given ys → xs ≡ ys
both R s given xs ys h k p q =
    unique R s xs ys (ordered_from R xs h) (ordered_from R ys k)
    (λ z i. moved given ys z q (moved xs given z (IsPermutation-sym given xs p) i))
    (λ z i. moved given xs z p (moved ys given z (IsPermutation-sym given ys q) i))

by_number : {X : Type 0} (key : X → ℕ) → IsStrict (λ x y. key x < key y)
by_number key = record { never = λ x h. omega arith; through = λ x y z p q. omega arith }

never_before : (a n : ℕ) → (a < a) ⊎ ((a ≡ a) × (n < n)) → ⊥
never_before a n (inl h) = omega arith
never_before a n (inr h) = let lt = h.1 in omega arith

before_through : (a b c n m o : ℕ) → (a < b) ⊎ ((a ≡ b) × (n < m)) → (b < c) ⊎ ((b ≡ c) × (m < o)) → (a < c) ⊎ ((a ≡ c) × (n < o))
before_through a b c n m o (inl p) (inl q) = inl (omega arith)
before_through a b c n m o (inl p) (inr q) = let e = q.0 in inl (omega arith)
before_through a b c n m o (inr p) (inl q) = let e = p.0 in inl (omega arith)
before_through a b c n m o (inr p) (inr q) = let e = p.0 in let f = q.0 in let h = p.1 in let k = q.1 in inr (e ∙ f, omega arith)

entries_strict : IsStrict IsEntryBefore
entries_strict = record {
  never = λ d h. never_before d.from_as.0 (rank d.node) h;
  through = λ d e f p q. before_through d.from_as.0 e.from_as.0 f.from_as.0 (rank d.node) (rank e.node) (rank f.node) p q;
}

abbrev made : As → List Addr → List Link → List OutLink → List Entry → Rows
made own nodes links outs entries = record { own = own; nodes = nodes; links = links; outs = outs; entries = entries }

-- topologies in order of the same rows are one
pub one_topology : (given t u : Rows) → IsBuilt given t → IsBuilt given u → IsInOrder t → IsInOrder u → u ≡ t
one_topology given t u p q h k =
    let own : u.own ≡ t.own = q.own ∙ sym p.own in
    let nodes : u.nodes ≡ t.nodes = both (λ a b. rank a < rank b) (by_number (λ (a : Addr). rank a)) given.nodes u.nodes t.nodes k.nodes h.nodes q.nodes p.nodes in
    let links : u.links ≡ t.links = both (λ l m. rank l.far < rank m.far) (by_number (λ (l : Link). rank l.far)) given.links u.links t.links k.links h.links q.links p.links in
    let outs : u.outs ≡ t.outs = both (λ o b. rank o.link.far < rank b.link.far) (by_number (λ (o : OutLink). rank o.link.far)) given.outs u.outs t.outs k.outs h.outs q.outs p.outs in
    let entries : u.entries ≡ t.entries = both IsEntryBefore entries_strict given.entries u.entries t.entries k.entries h.entries q.entries p.entries in
    ap (λ own. made own u.nodes u.links u.outs u.entries) own
    ∙ ap (λ nodes. made t.own nodes u.links u.outs u.entries) nodes
    ∙ ap (λ links. made t.own t.nodes links u.outs u.entries) links
    ∙ ap (λ outs. made t.own t.nodes t.links outs u.entries) outs
    ∙ ap (λ entries. made t.own t.nodes t.links t.outs entries) entries
