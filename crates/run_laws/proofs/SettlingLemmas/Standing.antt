-- The ends of links are the parent and the elements, each once.
use Rattle.std.proofs.Common.{◌≡◌, ◌∙◌, Bool, true, false, cond, nat_lt, List, [], ◌∷◌, ◌++◌, All, refl, ap, subst, arith}
use Rattle.std.proofs.lemmas.List.Elements.{All-head, All-tail}
use Rattle.plant_laws.specs.plant_model.Types.{As, NetworkParts, ElementRow}
use Rattle.plant_text.specs.Names.{same_as, parent_as, insert_as}
use Rattle.plant_text.specs.Settings.{Adjacency, adjacencies, before_adjacency, insert_adjacency, sorted, upward, has_adjacency, is_linked, children, children_of, elements_of, is_element}
use Rattle.plant_laws.specs.plant_model.Laws.{IsNetwork}
use Rattle.plant_laws.proofs.Runs.Queues.{same_as_is}
use Rattle.run_laws.specs.Settling.{ends}
use Rattle.run_laws.proofs.SettlingLemmas.Pairs.{same_self}
use Rattle.run_laws.proofs.SettlingLemmas.Adjacencies.{Rises, elements_rise}
use Rattle.run_laws.proofs.SettlingLemmas.Sums.{stands, stands_insert, stands_rows}

-- ---- children are elements

abbrev AllStand : List As → List As → Type 0
AllStand es [] = Unit {0}
AllStand es (d ∷ ds) = (stands d es ≡ true) × AllStand es ds

stand_insert : (es : List As) (a : As) (ds : List As) → stands a es ≡ true → AllStand es ds → AllStand es (insert_as a ds)
stand_insert es a [] one all = (one, tt)
stand_insert es a (d ∷ ds) one all = go (nat_lt a.0 d.0) (same_as a d) (stand_insert es a ds one all.1)
  where
    go : (p q : Bool) → AllStand es (insert_as a ds) → AllStand es (cond p (a ∷ d ∷ ds) (cond q (d ∷ ds) (d ∷ insert_as a ds)))
    go true q more = (one, all)
    go false true more = all
    go false false more = (all.0, more)

stand_more : (es : List As) (a : As) (ds : List As) → AllStand es ds → AllStand (insert_as a es) ds
stand_more es a [] all = tt
stand_more es a (d ∷ ds) all = (stands_insert d a es ∙ ap (λ (t : Bool). cond (same_as a d) true t) all.0 ∙ go (same_as a d), stand_more es a ds all.1)
  where
    go : (t : Bool) → cond t true true ≡ true
    go true = refl
    go false = refl

children_stand : (rows : List ElementRow) → AllStand (elements_of rows) (children_of rows)
children_stand [] = tt
children_stand (r ∷ rows) = go r.parent (stand_more (elements_of rows) r.own (children_of rows) (children_stand rows))
  where
    own : stands r.own (insert_as r.own (elements_of rows)) ≡ true
    own = stands_insert r.own r.own (elements_of rows) ∙ ap (λ (t : Bool). cond t true (stands r.own (elements_of rows))) (same_self r.own)

    go : (b : Bool) → AllStand (insert_as r.own (elements_of rows)) (children_of rows) → AllStand (insert_as r.own (elements_of rows)) (cond b (insert_as r.own (children_of rows)) (children_of rows))
    go true all = stand_insert (insert_as r.own (elements_of rows)) r.own (children_of rows) own all
    go false all = all

-- ---- both ends of links

module _ (n : NetworkParts) where
  abbrev Ends : List As
  Ends = ends n

  abbrev BothStand : List Adjacency → Type 0
  BothStand [] = Unit {0}
  BothStand (x ∷ xs) = (stands x.lower Ends ≡ true) × (stands x.upper Ends ≡ true) × BothStand xs

  below : (d : As) → stands d (elements_of n.elements) ≡ true → stands d Ends ≡ true
  below d is = ap (λ (t : Bool). cond (same_as parent_as d) true t) is ∙ go (same_as parent_as d)
    where
      go : (t : Bool) → cond t true true ≡ true
      go true = refl
      go false = refl

  element_stands : (d : As) → is_element n d ≡ true → stands d Ends ≡ true
  element_stands d is = below d (stands_rows d n.elements ∙ is)

  both_append : (xs ys : List Adjacency) → BothStand xs → BothStand ys → BothStand (xs ++ ys)
  both_append [] ys one other = other
  both_append (x ∷ xs) ys one other = (one.0, one.1, both_append xs ys one.2 other)

  both_insert : (x : Adjacency) (ys : List Adjacency) → stands x.lower Ends ≡ true → stands x.upper Ends ≡ true → BothStand ys → BothStand (insert_adjacency x ys)
  both_insert x [] low up all = (low, up, tt)
  both_insert x (y ∷ ys) low up all = go (before_adjacency x y) (both_insert x ys low up all.2)
    where
      go : (t : Bool) → BothStand (insert_adjacency x ys) → BothStand (cond t (x ∷ y ∷ ys) (y ∷ insert_adjacency x ys))
      go true more = (low, up, all)
      go false more = (all.0, all.1, more)

  upward_stand : (cs : List As) → AllStand (elements_of n.elements) cs → BothStand (upward cs)
  upward_stand [] all = tt
  upward_stand (d ∷ ds) all = (refl, below d all.0, upward_stand ds all.1)

  module _ (net : IsNetwork n) where
    abbrev IsGood : As × As → Type 0
    IsGood p = (is_element n p.0 ≡ true) × (is_element n p.1 ≡ true) × (p.0 ≡ p.1 → ⊥)

    sorted_stand : (ps : List (As × As)) → All IsGood ps → BothStand (sorted ps)
    sorted_stand [] all = tt
    sorted_stand (p ∷ ps) all =
        let good = All-head IsGood p ps all in
        go (sorted_stand ps (All-tail IsGood p ps all)) (nat_lt p.1.0 p.0.0) (element_stands p.0 good.0) (element_stands p.1 good.1)
      where
        go : BothStand (sorted ps) → (t : Bool) → stands p.0 Ends ≡ true → stands p.1 Ends ≡ true →
            BothStand (insert_adjacency (cond {A = Adjacency} t (record { lower = p.1; upper = p.0 }) (record { lower = p.0; upper = p.1 })) (sorted ps))
        go more true one other = both_insert (record { lower = p.1; upper = p.0 }) (sorted ps) other one more
        go more false one other = both_insert (record { lower = p.0; upper = p.1 }) (sorted ps) one other more

    adjacencies_stand : BothStand (adjacencies n)
    adjacencies_stand = both_append (upward (children n)) (sorted n.links) (upward_stand (children n) (children_stand n.elements)) (sorted_stand n.links net.links)

    linked_in : (a b : As) (xs : List Adjacency) → BothStand xs → has_adjacency a b xs ≡ true → (stands a Ends ≡ true) × (stands b Ends ≡ true)
    linked_in a b [] all e = absurd (let clash : false ≡ true = e in cc)
    linked_in a b (x ∷ xs) all e = go (linked_in a b xs all.2) (same_as x.lower a) (same_as x.upper b) (same_as x.lower b) (same_as x.upper a) refl refl refl refl e
      where
        go : (has_adjacency a b xs ≡ true → (stands a Ends ≡ true) × (stands b Ends ≡ true)) → (p q r s : Bool) → same_as x.lower a ≡ p → same_as x.upper b ≡ q → same_as x.lower b ≡ r → same_as x.upper a ≡ s → cond (cond p q (cond r s false)) true (has_adjacency a b xs) ≡ true →
            (stands a Ends ≡ true) × (stands b Ends ≡ true)
        go more true true r s e f g h is = (subst (λ (z : As). stands z Ends ≡ true) (same_as_is x.lower a e) all.0, subst (λ (z : As). stands z Ends ≡ true) (same_as_is x.upper b f) all.1)
        go more true false r s e f g h is = more is
        go more false q true true e f g h is = (subst (λ (z : As). stands z Ends ≡ true) (same_as_is x.upper a h) all.1, subst (λ (z : As). stands z Ends ≡ true) (same_as_is x.lower b g) all.0)
        go more false q true false e f g h is = more is
        go more false q false s e f g h is = more is

    pub linked_stand : (a b : As) → is_linked n a b ≡ true → (stands a Ends ≡ true) × (stands b Ends ≡ true)
    linked_stand a b linked = linked_in a b (adjacencies n) adjacencies_stand linked

    pub ends_rise : Rises 0 Ends
    ends_rise = (omega arith, elements_rise n.elements net.elements)

  -- who is not the parent is an element
  pub lower_stands : (d : As) → same_as parent_as d ≡ false → stands d Ends ≡ true → stands d (elements_of n.elements) ≡ true
  lower_stands d low is = subst (λ (t : Bool). cond t true (stands d (elements_of n.elements)) ≡ true) low is
