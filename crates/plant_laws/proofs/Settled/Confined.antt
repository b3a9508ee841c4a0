-- The law that runs are confined: what is pending came from somebody who is heard, and nobody is heard but at elements and at the
-- parent of a network that has one.
use Rattle.std.proofs.Common.{◌≡◌, ◌⊎◌, ℕ, zero, suc, Bool, true, false, cond, nat_lt, List, [], ◌∷◌, ◌++◌, Option, Some, None, is_some, sym, ◌∙◌, ap, subst, inl, inr, refl, arith}
use Rattle.std.specs.Prelude.{All}
use Rattle.std.proofs.lemmas.Bool.{cases_Bool, eq-eqb}
use Rattle.std.proofs.lemmas.List.Elements.{All-head, All-tail}
use Rattle.plant_model.specs.Types.{As, Peer, Outside, Inner, Held, NetworkParts, ElementRow, PeerRow}
use Rattle.plant_text.specs.Names.{same_as, parent_as, insert_as}
use Rattle.plant_text.specs.Settings.{Adjacency, adjacency, before_adjacency, insert_adjacency, sorted, upward, children_of, adjacencies, has_adjacency, is_linked, is_element, row_of, peer_row}
use Rattle.plant_model.specs.Laws.{IsNetwork}
use Rattle.plant_model.specs.Deeds.{at_row}
use Rattle.plant_model.specs.Element.{Item}
use Rattle.plant_model.specs.Parent.{Asking}
use Rattle.plant_model.specs.State.{Connection}
use Rattle.plant_model.specs.Plant.{Pin}
use Rattle.plant_laws.specs.Runs.{InRuns}
use Rattle.plant_laws.specs.Confined.{IsConfinedIn}
use Rattle.plant_laws.proofs.Once.AskedRuns.{is_real}
use Rattle.plant_laws.proofs.Runs.Queues.{same_as_is}
use Rattle.plant_laws.proofs.Settled.Quiet.{run_none}
use Rattle.plant_laws.proofs.Settled.Reaches.{Askers}
use Rattle.plant_laws.proofs.Settled.ReachesRuns.{IsHeard, IsKnown, run_keeps}

module _ (n : NetworkParts) where
  -- the domain is an element, or the parent of a network that has one
  abbrev IsThere : As → Type 0
  IsThere d = (is_element n d ≡ true) ⊎ ((d ≡ parent_as) × (is_some n.parent ≡ true))

  abbrev AreThere : List Adjacency → Type 0
  AreThere [] = Unit {0}
  AreThere (x ∷ xs) = (IsThere x.lower × IsThere x.upper) × AreThere xs

  -- ---- the links of the parent

  abbrev IsChild : As → Type 0
  IsChild a = (is_element n a ≡ true) × (is_some n.parent ≡ true)

  abbrev AreChildren : List As → Type 0
  AreChildren [] = Unit {0}
  AreChildren (a ∷ cs) = IsChild a × AreChildren cs

  insert_children : (d : As) (ds : List As) → IsChild d → AreChildren ds → AreChildren (insert_as d ds)
  insert_children d [] is all = (is, tt)
  insert_children d (a ∷ ds) is all = go (nat_lt d.0 a.0) (same_as d a) (insert_children d ds is all.1)
    where
      go : (x y : Bool) → AreChildren (insert_as d ds) → AreChildren (cond x (d ∷ a ∷ ds) (cond y (a ∷ ds) (a ∷ insert_as d ds)))
      go true y more = (is, all)
      go false true more = all
      go false false more = (all.0, more)

  are_children : (rs : List ElementRow) → All (λ (r : ElementRow). r.parent ≡ true → is_some n.parent ≡ true) rs → ((d : As) → is_some (row_of d rs) ≡ true → is_element n d ≡ true) → AreChildren (children_of rs)
  are_children [] all known = tt
  are_children (r ∷ rs) all known = go r.parent refl (are_children rs (All-tail (λ (z : ElementRow). z.parent ≡ true → is_some n.parent ≡ true) r rs all) (λ d found. known d (later (same_as r.own d) d found)))
    where
      later : (b : Bool) (d : As) → is_some (row_of d rs) ≡ true → is_some (cond b (Some r) (row_of d rs)) ≡ true
      later true d found = refl
      later false d found = found

      own : is_element n r.own ≡ true
      own = known r.own (ap (λ (b : Bool). is_some (cond b (Some r) (row_of r.own rs))) (eq-eqb r.own.0 r.own.0 refl))

      go : (b : Bool) → r.parent ≡ b → AreChildren (children_of rs) → AreChildren (cond b (insert_as r.own (children_of rs)) (children_of rs))
      go true is more = insert_children r.own (children_of rs) (own, All-head (λ (z : ElementRow). z.parent ≡ true → is_some n.parent ≡ true) r rs all is) more
      go false is more = more

  upward_there : (cs : List As) → AreChildren cs → AreThere (upward cs)
  upward_there [] all = tt
  upward_there (a ∷ cs) all = ((inr (refl, all.0.1), inl all.0.0), upward_there cs all.1)

  -- ---- those between elements

  there_append : (xs ys : List Adjacency) → AreThere xs → AreThere ys → AreThere (xs ++ ys)
  there_append [] ys h k = k
  there_append (x ∷ xs) ys h k = (h.0, there_append xs ys h.1 k)

  insert_there : (x : Adjacency) (ys : List Adjacency) → IsThere x.lower × IsThere x.upper → AreThere ys → AreThere (insert_adjacency x ys)
  insert_there x [] is all = (is, tt)
  insert_there x (y ∷ ys) is all = go (before_adjacency x y) (insert_there x ys is all.1)
    where
      go : (b : Bool) → AreThere (insert_adjacency x ys) → AreThere (cond b (x ∷ y ∷ ys) (y ∷ insert_adjacency x ys))
      go true more = (is, all)
      go false more = (all.0, more)

  abbrev IsLink : As × As → Type 0
  IsLink p = (is_element n p.0 ≡ true) × (is_element n p.1 ≡ true) × (p.0 ≡ p.1 → ⊥)

  sorted_there : (ps : List (As × As)) → All IsLink ps → AreThere (sorted ps)
  sorted_there [] all = tt
  sorted_there (p ∷ ps) all = insert_there (adjacency p.0 p.1) (sorted ps) (go (nat_lt p.1.0 p.0.0)) (sorted_there ps (All-tail IsLink p ps all))
    where
      go : (t : Bool) → (let x : Adjacency = cond t (record { lower = p.1; upper = p.0 }) (record { lower = p.0; upper = p.1 }) in IsThere x.lower × IsThere x.upper)
      go true = (let e = All-head IsLink p ps all in (inl e.1, inl e.0))
      go false = (let e = All-head IsLink p ps all in (inl e.0, inl e.1))

  -- ---- both ends of a link are there

  ends_there : (a b : As) (xs : List Adjacency) → AreThere xs → has_adjacency a b xs ≡ true → IsThere b
  ends_there a b [] all e = absurd (let clash : false ≡ true = e in cc)
  ends_there a b (x ∷ xs) all e = go (same_as x.lower a) (same_as x.upper b) refl (same_as x.lower b) refl e (ends_there a b xs all.1)
    where
      go : (t u : Bool) → same_as x.upper b ≡ u → (v : Bool) → same_as x.lower b ≡ v → cond (cond t u (cond v (same_as x.upper a) false)) true (has_adjacency a b xs) ≡ true → (has_adjacency a b xs ≡ true → IsThere b) → IsThere b
      go true true is v is' e' rest = subst IsThere (same_as_is x.upper b is) all.0.1
      go true false is v is' e' rest = rest e'
      go false u is true is' e' rest = subst IsThere (same_as_is x.lower b is') all.0.0
      go false u is false is' e' rest = rest e'

  module _ (net : IsNetwork n) where
    heard_there : (b d : As) → is_linked n b d ≡ true → IsThere d
    heard_there b d linked =
        ends_there b d (adjacencies n) (there_append (upward (children_of n.elements)) (sorted n.links) (upward_there (children_of n.elements) (are_children n.elements net.has_parent (λ d' found. found))) (sorted_there n.links net.links)) linked

    peer_there : (i : ℕ) (rs : List PeerRow) → All (λ (r : PeerRow). is_element n r.at ≡ true) rs → is_some (peer_row i rs) ≡ true → is_element n (at_row (peer_row i rs)) ≡ true
    peer_there i [] all known = absurd (let clash : false ≡ true = known in cc)
    peer_there zero (r ∷ rs) all known = All-head (λ (z : PeerRow). is_element n z.at ≡ true) r rs all
    peer_there (suc i) (r ∷ rs) all known = peer_there i rs (All-tail (λ (z : PeerRow). is_element n z.at ≡ true) r rs all) known

    is_there : (d : As) (p : Peer) → IsHeard n d p → IsThere d
    is_there d (Outside i) heard = inl (subst (λ (z : As). is_element n z ≡ true) (sym heard.1) (peer_there i n.peers net.peers heard.0))
    is_there d (Inner b) heard = heard_there b d heard

    -- the parent is no element
    not_above : (d : As) → d ≡ parent_as → is_element n d ≡ true → ⊥
    not_above d is found = (let zero' : d.0 ≡ 0 = ap (λ (z : As). z.0) is in let real = is_real n net d n.elements net.elements found in omega (arith, zero', real))

    none_heard : (T : Type 0) (d : As) (rows : List (ℕ × Held T)) → Askers (IsHeard n d) T rows → (IsThere d → ⊥) → rows ≡ []
    none_heard T d [] heard none = refl
    none_heard T d (h ∷ rows) heard none = absurd (none (is_there d h.1.key.peer heard.0))

    nobody : (d : As) → is_element n d ≡ false → same_as d parent_as ≡ false → IsThere d → ⊥
    nobody d other low (inl found) = (let clash : true ≡ false = sym found ∙ other in cc)
    nobody d other low (inr up) = (let clash : true ≡ false = sym (eq-eqb d.0 0 (ap (λ (z : As). z.0) up.0)) ∙ low in cc)

    nobody_above : is_some n.parent ≡ false → IsThere parent_as → ⊥
    nobody_above none (inl found) = not_above parent_as refl found
    nobody_above none (inr up) = (let clash : true ≡ false = sym up.1 ∙ none in cc)

gone : (n : NetworkParts) (i : ℕ) → is_some (peer_row i n.peers) ≡ false → (o : Option Connection) → IsKnown n i o → o ≡ None
gone n i unknown None known = refl
gone n i unknown (Some x) known = absurd (let clash : true ≡ false = sym known ∙ unknown in cc)

pub runs_are_confined : InRuns IsConfinedIn
runs_are_confined c codec n net es s run =
    let kept = run_keeps c n es s run in
    record {
      queues = kept.queues;
      tables = λ d other.
          elim (cases_Bool (same_as d parent_as)) [
            | inl up ↦ ap (λ (z : As). (s.elements z).pending.rows) (same_as_is d parent_as up) ∙ run_none c n es s run
            | inr low ↦ none_heard n net (Item Pin) d (s.elements d).pending.rows (kept.elements d).rows (nobody n net d other low)
          ];
      table_above = λ none. none_heard n net Asking parent_as s.parent.pending.rows kept.above.rows (nobody_above n net none);
      peers = λ i unknown. gone n i unknown (s.accesses i).connection (kept.peers i);
    }
