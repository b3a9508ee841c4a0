-- No link of the settings of a network is from a member to itself.
use Rattle.std.proofs.Common.{◌≡◌, ◌≢◌, Bool, true, false, cond, nat_lt, All, List, [], ◌∷◌, ◌++◌, refl, sym, ◌∙◌, ap₂}
use Rattle.std.proofs.lemmas.Bool.{false≢true}
use Rattle.std.proofs.lemmas.List.Elements.{All-head, All-tail}
use Rattle.pce_common.specs.plant_model.Types.{As, NetworkParts, ElementRow}
use Rattle.plant_text.specs.Names.{same_as, same_link, parent_as, insert_as}
use Rattle.plant_text.specs.Networks.{ObeysRules}
use Rattle.plant_text.specs.Settings.{Adjacency, adjacencies, before_adjacency, insert_adjacency, sorted, upward, has_adjacency, children, children_of}
use Rattle.network_members.proofs.DomainLemmas.{same_as_is}
use Rattle.network_members.proofs.NetworkLemmas.{settings_of}
use Rattle.network_members.proofs.TierLemmas.{as_sym}

differ : (a b : As) → a ≢ b → same_as a b ≡ false
differ a b other = go (same_as a b) refl
  where
    go : (c : Bool) → same_as a b ≡ c → c ≡ false
    go true is = absurd (other (same_as_is a b is))
    go false is = refl

-- the ends of each are two
abbrev pub HaveTwo : List Adjacency → Type 0
HaveTwo [] = Unit {0}
HaveTwo (x ∷ xs) = (same_as x.lower x.upper ≡ false) × HaveTwo xs

two_append : (xs ys : List Adjacency) → HaveTwo xs → HaveTwo ys → HaveTwo (xs ++ ys)
two_append [] ys one other = other
two_append (x ∷ xs) ys one other = (one.0, two_append xs ys one.1 other)

two_insert : (x : Adjacency) (ys : List Adjacency) → same_as x.lower x.upper ≡ false → HaveTwo ys → HaveTwo (insert_adjacency x ys)
two_insert x [] two are = (two, tt)
two_insert x (y ∷ ys) two are = go (two_insert x ys two are.1) (before_adjacency x y)
  where
    go : HaveTwo (insert_adjacency x ys) → (b : Bool) → HaveTwo (cond b (x ∷ y ∷ ys) (y ∷ insert_adjacency x ys))
    go more true = (two, are)
    go more false = (are.0, more)

two_sorted : (ps : List (As × As)) → All (λ (l : As × As). l.0 ≢ l.1) ps → HaveTwo (sorted ps)
two_sorted [] all = tt
two_sorted (p ∷ ps) all =
    go (nat_lt p.1.0 p.0.0) (differ p.0 p.1 (All-head (λ (l : As × As). l.0 ≢ l.1) p ps all)) (two_sorted ps (All-tail (λ (l : As × As). l.0 ≢ l.1) p ps all))
  where
    go : (b : Bool) → same_as p.0 p.1 ≡ false → HaveTwo (sorted ps) → HaveTwo (insert_adjacency (cond b (record { lower = p.1; upper = p.0 }) (record { lower = p.0; upper = p.1 })) (sorted ps))
    go true two rest = two_insert (record { lower = p.1; upper = p.0 }) (sorted ps) (as_sym p.1 p.0 ∙ two) rest
    go false two rest = two_insert (record { lower = p.0; upper = p.1 }) (sorted ps) two rest

-- none is the parent
abbrev pub AreLower : List As → Type 0
AreLower [] = Unit {0}
AreLower (c ∷ cs) = (same_as parent_as c ≡ false) × AreLower cs

lower_insert : (c : As) (cs : List As) → same_as parent_as c ≡ false → AreLower cs → AreLower (insert_as c cs)
lower_insert c [] is are = (is, tt)
lower_insert c (a ∷ cs) is are = go (lower_insert c cs is are.1) (nat_lt c.0 a.0) (same_as c a)
  where
    go : AreLower (insert_as c cs) → (x y : Bool) → AreLower (cond x (c ∷ a ∷ cs) (cond y (a ∷ cs) (a ∷ insert_as c cs)))
    go more true y = (is, are)
    go more false true = are
    go more false false = (are.0, more)

lower_children : (rows : List ElementRow) → All (λ (e : ElementRow). e.own ≢ parent_as) rows → AreLower (children_of rows)
lower_children [] all = tt
lower_children (r ∷ rows) all =
    go r.parent (as_sym parent_as r.own ∙ differ r.own parent_as (All-head (λ (e : ElementRow). e.own ≢ parent_as) r rows all)) (lower_children rows (All-tail (λ (e : ElementRow). e.own ≢ parent_as) r rows all))
  where
    go : (b : Bool) → same_as parent_as r.own ≡ false → AreLower (children_of rows) → AreLower (cond b (insert_as r.own (children_of rows)) (children_of rows))
    go true is rest = lower_insert r.own (children_of rows) is rest
    go false is rest = rest

two_upward : (cs : List As) → AreLower cs → HaveTwo (upward cs)
two_upward [] are = tt
two_upward (c ∷ cs) are = (are.0, two_upward cs are.1)

linked_two : (a b : As) (xs : List Adjacency) → HaveTwo xs → has_adjacency a b xs ≡ true → same_as a b ≡ false
linked_two a b [] two is = absurd (false≢true is)
linked_two a b (x ∷ xs) two is = go (linked_two a b xs two.1) (same_link x.lower x.upper a b) refl is
  where
    ends : (p q : Bool) → same_as x.lower a ≡ p → same_as x.upper a ≡ q → cond p (same_as x.upper b) (cond (same_as x.lower b) q false) ≡ true → same_as a b ≡ false
    ends true q low up same = ap₂ same_as (sym (same_as_is x.lower a low)) (sym (same_as_is x.upper b same)) ∙ two.0
    ends false true low up same = other (same_as x.lower b) refl same
      where
        other : (c : Bool) → same_as x.lower b ≡ c → cond c true false ≡ true → same_as a b ≡ false
        other true here e = ap₂ same_as (sym (same_as_is x.upper a up)) (sym (same_as_is x.lower b here)) ∙ as_sym x.upper x.lower ∙ two.0
        other false here e = absurd (false≢true e)
    ends false false low up same = absurd (none (same_as x.lower b) same)
      where
        none : (c : Bool) → cond c false false ≡ true → ⊥
        none true e = false≢true e
        none false e = false≢true e

    go : (has_adjacency a b xs ≡ true → same_as a b ≡ false) → (c : Bool) → same_link x.lower x.upper a b ≡ c → cond c true (has_adjacency a b xs) ≡ true → same_as a b ≡ false
    go more true same known = ends (same_as x.lower a) (same_as x.upper a) refl refl same
    go more false same known = more known

pub ends_are_two : (n : NetworkParts) → ObeysRules n → (a b : As) → has_adjacency a b (adjacencies n) ≡ true → same_as a b ≡ false
ends_are_two n net a b =
    let s = settings_of n net in
    linked_two a b (adjacencies n) (two_append (upward (children n)) (sorted n.links) (two_upward (children n) (lower_children n.elements s.elements.domains)) (two_sorted n.links s.links.differ))
