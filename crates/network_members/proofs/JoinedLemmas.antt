-- The settings of a network join members: each link has two, and each outside peer is at one.
use Rattle.std.proofs.Common.{◌≡◌, ◌≢◌, ◌<◌, ℕ, zero, suc, Bool, true, false, cond, nat_lt, is_some, length, take, drop, map, All, Some, List, [], ◌∷◌, ◌++◌, arith, refl, sym, ◌∙◌, ap, subst}
use Rattle.std.specs.Prelude.{Contains, slice_index_or}
use Rattle.std.proofs.lemmas.Bool.{false≢true}
use Rattle.std.proofs.lemmas.List.{take-append-drop}
use Rattle.std.proofs.lemmas.List.Elements.{All-head, All-tail, All-append, All-weaker, All-contains_itself}
use Rattle.pce_common.specs.plant_model.Types.{As, NetworkParts, ElementRow, PeerRow}
use Rattle.plant_text.specs.Names.{same_as, same_link, parent_as, insert_as}
use Rattle.plant_text.specs.Networks.{IsAdded, ObeysRules}
use Rattle.plant_text.specs.Settings.{Adjacency, adjacencies, before_adjacency, insert_adjacency, sorted, upward, has_adjacency, children, children_of, is_element, row_of, peer_row}
use Rattle.pce_common.specs.plant_model.Element.{Way}
use Rattle.pce_common.specs.plant_model.Deeds.{at_row}
use Rattle.pce_common.specs.plant_model.Settings.{inner_ways, way, ways_along}
use Rattle.pce_common.specs.Membership.{AreJoined, is_member}
use Rattle.pce_element.specs.pce_common.Ways.{way_of}
use Rattle.network_members.proofs.DomainLemmas.{same_as_is, as_self}
use Rattle.network_members.proofs.NetworkLemmas.{settings_of}

-- ---- elements

has_row : (e : ElementRow) (rows : List ElementRow) (i : ℕ) → i < length rows → slice_index_or rows i e ≡ e → is_some (row_of e.own rows) ≡ true
has_row e [] i within is = absurd (omega (arith, within))
has_row e (r ∷ rows) zero within is = ap (λ (b : Bool). is_some (cond b (Some r) (row_of e.own rows))) (ap (λ (x : ElementRow). same_as x.own e.own) is ∙ as_self e.own)
has_row e (r ∷ rows) (suc i) within is = go (has_row e rows i (omega (arith, within)) is) (same_as r.own e.own)
  where
    go : is_some (row_of e.own rows) ≡ true → (b : Bool) → is_some (cond b (Some r) (row_of e.own rows)) ≡ true
    go more true = refl
    go more false = more

not_upper : (d : As) (rows : List ElementRow) → All (λ (e : ElementRow). e.own ≢ parent_as) rows → is_some (row_of d rows) ≡ true → same_as d parent_as ≡ false
not_upper d [] all is = absurd (false≢true is)
not_upper d (r ∷ rows) all is = go (not_upper d rows (All-tail (λ (e : ElementRow). e.own ≢ parent_as) r rows all)) (same_as r.own d) refl is
  where
    apart : (b : Bool) → same_as d parent_as ≡ b → (same_as d parent_as ≡ true → ⊥) → b ≡ false
    apart true is no' = absurd (no' is)
    apart false is no' = refl

    go : (is_some (row_of d rows) ≡ true → same_as d parent_as ≡ false) → (b : Bool) → same_as r.own d ≡ b → is_some (cond b (Some r) (row_of d rows)) ≡ true → same_as d parent_as ≡ false
    go more true same known =
        let other : r.own ≢ parent_as = All-head (λ (e : ElementRow). e.own ≢ parent_as) r rows all in
        apart (same_as d parent_as) refl (λ up. other (same_as_is r.own d same ∙ same_as_is d parent_as up))
    go more false same known = more known

element_member : (n : NetworkParts) (d : As) → All (λ (e : ElementRow). e.own ≢ parent_as) n.elements → is_element n d ≡ true → is_member n d ≡ true
element_member n d all is = ap (λ (b : Bool). cond b (is_some n.parent) (is_element n d)) (not_upper d n.elements all is) ∙ is

-- ---- links

-- both ends of each are members
abbrev pub AreBetween : NetworkParts → List Adjacency → Type 0
AreBetween n [] = Unit {0}
AreBetween n (x ∷ xs) = (is_member n x.lower ≡ true) × (is_member n x.upper ≡ true) × AreBetween n xs

between_append : (n : NetworkParts) (xs ys : List Adjacency) → AreBetween n xs → AreBetween n ys → AreBetween n (xs ++ ys)
between_append n [] ys one other = other
between_append n (x ∷ xs) ys one other = (one.0, one.1, between_append n xs ys one.2 other)

between_insert : (n : NetworkParts) (x : Adjacency) (ys : List Adjacency) → is_member n x.lower ≡ true → is_member n x.upper ≡ true → AreBetween n ys → AreBetween n (insert_adjacency x ys)
between_insert n x [] low up are = (low, up, tt)
between_insert n x (y ∷ ys) low up are = go (between_insert n x ys low up are.2) (before_adjacency x y)
  where
    go : AreBetween n (insert_adjacency x ys) → (b : Bool) → AreBetween n (cond b (x ∷ y ∷ ys) (y ∷ insert_adjacency x ys))
    go more true = (low, up, are)
    go more false = (are.0, are.1, more)

between_sorted : (n : NetworkParts) (ps : List (As × As)) → All (λ (e : ElementRow). e.own ≢ parent_as) n.elements → All (λ (l : As × As). (is_element n l.0 ≡ true) × (is_element n l.1 ≡ true)) ps → AreBetween n (sorted ps)
between_sorted n [] all known = tt
between_sorted n (p ∷ ps) all known =
    let here = All-head (λ (l : As × As). (is_element n l.0 ≡ true) × (is_element n l.1 ≡ true)) p ps known in
    let rest = between_sorted n ps all (All-tail (λ (l : As × As). (is_element n l.0 ≡ true) × (is_element n l.1 ≡ true)) p ps known) in
    go (nat_lt p.1.0 p.0.0) (element_member n p.0 all here.0) (element_member n p.1 all here.1) rest
  where
    go : (b : Bool) → is_member n p.0 ≡ true → is_member n p.1 ≡ true → AreBetween n (sorted ps) → AreBetween n (insert_adjacency (cond b (record { lower = p.1; upper = p.0 }) (record { lower = p.0; upper = p.1 })) (sorted ps))
    go true one other rest = between_insert n (record { lower = p.1; upper = p.0 }) (sorted ps) other one rest
    go false one other rest = between_insert n (record { lower = p.0; upper = p.1 }) (sorted ps) one other rest

-- each is a member, and there is a parent
abbrev pub AreBelow : NetworkParts → List As → Type 0
AreBelow n [] = Unit {0}
AreBelow n (c ∷ cs) = (is_some n.parent ≡ true) × (is_member n c ≡ true) × AreBelow n cs

below_insert : (n : NetworkParts) (c : As) (cs : List As) → is_some n.parent ≡ true → is_member n c ≡ true → AreBelow n cs → AreBelow n (insert_as c cs)
below_insert n c [] there is are = (there, is, tt)
below_insert n c (a ∷ cs) there is are = go (below_insert n c cs there is are.2) (nat_lt c.0 a.0) (same_as c a)
  where
    go : AreBelow n (insert_as c cs) → (x y : Bool) → AreBelow n (cond x (c ∷ a ∷ cs) (cond y (a ∷ cs) (a ∷ insert_as c cs)))
    go more true y = (there, is, are)
    go more false true = are
    go more false false = (are.0, are.1, more)

below_children : (n : NetworkParts) (rows : List ElementRow) → All (λ (e : ElementRow). e.own ≢ parent_as) n.elements → All (λ (e : ElementRow). e.parent ≡ true → is_some n.parent ≡ true) rows → All (Contains n.elements) rows → AreBelow n (children_of rows)
below_children n [] all up has = tt
below_children n (r ∷ rows) all up has = go r.parent refl (below_children n rows all (All-tail (λ (e : ElementRow). e.parent ≡ true → is_some n.parent ≡ true) r rows up) (All-tail (Contains n.elements) r rows has))
  where
    go : (b : Bool) → r.parent ≡ b → AreBelow n (children_of rows) → AreBelow n (cond b (insert_as r.own (children_of rows)) (children_of rows))
    go false is rest = rest
    go true is rest =
        let here = All-head (Contains n.elements) r rows has in
        below_insert n r.own (children_of rows)
        (All-head (λ (e : ElementRow). e.parent ≡ true → is_some n.parent ≡ true) r rows up is)
        (element_member n r.own all (has_row r n.elements here.0 here.1 here.2)) rest

between_upward : (n : NetworkParts) (cs : List As) → AreBelow n cs → AreBetween n (upward cs)
between_upward n [] are = tt
between_upward n (c ∷ cs) are = (are.0, are.1, between_upward n cs are.2)

linked_member : (n : NetworkParts) (a b : As) (xs : List Adjacency) → AreBetween n xs → has_adjacency a b xs ≡ true → is_member n a ≡ true
linked_member n a b [] are is = absurd (false≢true is)
linked_member n a b (x ∷ xs) are is = go (linked_member n a b xs are.2) (same_link x.lower x.upper a b) refl is
  where
    ends : (p q : Bool) → same_as x.lower a ≡ p → same_as x.upper a ≡ q → cond p (same_as x.upper b) (cond (same_as x.lower b) q false) ≡ true → is_member n a ≡ true
    ends true q low up same = subst (λ (d : As). is_member n d ≡ true) (same_as_is x.lower a low) are.0
    ends false true low up same = subst (λ (d : As). is_member n d ≡ true) (same_as_is x.upper a up) are.1
    ends false false low up same = absurd (none (same_as x.lower b) same)
      where
        none : (c : Bool) → cond c false false ≡ true → ⊥
        none true e = false≢true e
        none false e = false≢true e

    go : (has_adjacency a b xs ≡ true → is_member n a ≡ true) → (c : Bool) → same_link x.lower x.upper a b ≡ c → cond c true (has_adjacency a b xs) ≡ true → is_member n a ≡ true
    go more true same known = ends (same_as x.lower a) (same_as x.upper a) refl refl same
    go more false same known = more known

between_adjacencies : (n : NetworkParts) → ObeysRules n → AreBetween n (adjacencies n)
between_adjacencies n net =
    let s = settings_of n net in
    between_append n (upward (children n)) (sorted n.links)
    (between_upward n (children n) (below_children n n.elements s.elements.domains s.elements.children (All-contains_itself n.elements)))
    (between_sorted n n.links s.elements.domains s.links.known)

-- ---- peers

peer_known : (n : NetworkParts) (rows : List PeerRow) (i : ℕ) → i < length rows → All (λ (p : PeerRow). is_element n p.at ≡ true) rows → is_element n (at_row (peer_row i rows)) ≡ true
peer_known n [] i within all = absurd (omega (arith, within))
peer_known n (r ∷ rows) zero within all = All-head (λ (p : PeerRow). is_element n p.at ≡ true) r rows all
peer_known n (r ∷ rows) (suc i) within all = peer_known n rows i (omega (arith, within)) (All-tail (λ (p : PeerRow). is_element n p.at ≡ true) r rows all)

peers_known : (n : NetworkParts) → ObeysRules n → All (λ (p : PeerRow). is_element n p.at ≡ true) n.peers
peers_known n net =
    let Known : PeerRow → Type 0 = λ p. is_element n p.at ≡ true in
    subst (All Known) (take-append-drop net.given n.peers)
    (All-append Known (take net.given n.peers) (drop net.given n.peers) (settings_of n net).peers.known (All-weaker (IsAdded n) Known (λ p added. added.1) (drop net.given n.peers) net.added))

pub are_joined : (n : NetworkParts) → ObeysRules n → AreJoined n
are_joined n net = record {
  peers = λ i within. element_member n (at_row (peer_row i n.peers)) (settings_of n net).elements.domains (peer_known n n.peers i within (peers_known n net));
  links = λ a b is. linked_member n a b (adjacencies n) (between_adjacencies n net) is;
}

-- no element has the number of the parent
pub elements_below : (n : NetworkParts) → ObeysRules n → (d : As) → is_element n d ≡ true → same_as d parent_as ≡ false
elements_below n net d is = not_upper d n.elements (settings_of n net).elements.domains is

-- ---- the ways of the parent

abbrev AreApart : List Adjacency → Type 0
AreApart [] = Unit {0}
AreApart (x ∷ xs) = (same_as x.lower parent_as ≡ false) × (same_as x.upper parent_as ≡ false) × AreApart xs

apart_insert : (x : Adjacency) (ys : List Adjacency) → same_as x.lower parent_as ≡ false → same_as x.upper parent_as ≡ false → AreApart ys → AreApart (insert_adjacency x ys)
apart_insert x [] low up are = (low, up, tt)
apart_insert x (y ∷ ys) low up are = go (apart_insert x ys low up are.2) (before_adjacency x y)
  where
    go : AreApart (insert_adjacency x ys) → (b : Bool) → AreApart (cond b (x ∷ y ∷ ys) (y ∷ insert_adjacency x ys))
    go more true = (low, up, are)
    go more false = (are.0, are.1, more)

apart_sorted : (n : NetworkParts) (ps : List (As × As)) → All (λ (e : ElementRow). e.own ≢ parent_as) n.elements → All (λ (l : As × As). (is_element n l.0 ≡ true) × (is_element n l.1 ≡ true)) ps → AreApart (sorted ps)
apart_sorted n [] all known = tt
apart_sorted n (p ∷ ps) all known =
    let here = All-head (λ (l : As × As). (is_element n l.0 ≡ true) × (is_element n l.1 ≡ true)) p ps known in
    go (nat_lt p.1.0 p.0.0) (not_upper p.0 n.elements all here.0) (not_upper p.1 n.elements all here.1)
    (apart_sorted n ps all (All-tail (λ (l : As × As). (is_element n l.0 ≡ true) × (is_element n l.1 ≡ true)) p ps known))
  where
    go : (b : Bool) → same_as p.0 parent_as ≡ false → same_as p.1 parent_as ≡ false → AreApart (sorted ps) → AreApart (insert_adjacency (cond b (record { lower = p.1; upper = p.0 }) (record { lower = p.0; upper = p.1 })) (sorted ps))
    go true one other rest = apart_insert (record { lower = p.1; upper = p.0 }) (sorted ps) other one rest
    go false one other rest = apart_insert (record { lower = p.0; upper = p.1 }) (sorted ps) one other rest

ways_apart : (xs : List Adjacency) → AreApart xs → ways_along parent_as xs ≡ []
ways_apart [] are = refl
ways_apart (x ∷ xs) are = rw are.0 (rw are.1 (ways_apart xs are.2))

ways_upward : (cs : List As) (xs : List Adjacency) → AreApart xs → ways_along parent_as (upward cs ++ xs) ≡ map way_of cs
ways_upward [] xs are = ways_apart xs are
ways_upward (c ∷ cs) xs are = ap (λ (ws : List Way). way c ∷ ws) (ways_upward cs xs are)

pub ways_above : (n : NetworkParts) → ObeysRules n → map way_of (children n) ≡ inner_ways n parent_as
ways_above n net =
    let s = settings_of n net in
    sym (ways_upward (children n) (sorted n.links) (apart_sorted n n.links s.elements.domains s.links.known))
