-- What is due to be carried can be carried; and what is on its way, of a network and of the traffic that it holds.
use Rattle.std.proofs.Common.{◌≡◌, Bool, true, false, not, cond, List, [], ◌∷◌, All, Contains, Some, None, inl, inr, sym, subst, ap, refl}
use Rattle.std.proofs.lemmas.Bool.{eq-eqb, eqb-true}
use Rattle.border_costs.proofs.Members.{contains_cases, contains_none}
use Rattle.network_events.specs.plant_model.Types.{As, Hop, NetworkParts}
use Rattle.plant_text.specs.Names.{same_as, same_link}
use Rattle.plant_text.specs.Settings.{Adjacency, has_adjacency, is_linked, adjacencies}
use Rattle.network_events.specs.plant_model.declared.outcome.Refused.TheVariants as refused
use Rattle.network_events.specs.plant_model.Blind.{is_accepted}
use Rattle.network_events.specs.plant_model.Events as events
use Rattle.network_events.specs.plant_model.Events.{Happened}
use Rattle.network_events.specs.plant_model.Names.{is_empty}
use Rattle.network_events.specs.plant_model.State.{State}
use Rattle.network_events.specs.plant_model.Wire.{Bytes, Codec}
use Rattle.network_events.specs.network_links.Flow.{Flow}
use Rattle.network_events.specs.network_links.Waiting.{IsAtMost, WaitsNext, ways}
use Rattle.plant_network.specs.Due.{IsLeast, IsSettled}

-- ---- along the links of the settings

-- both ways of a link lead along it
turned_link : (a b : As) → same_link a b b a ≡ true
turned_link a b = go (same_as a b) refl
  where
    go : (c : Bool) → same_as a b ≡ c → cond c (same_as b a) (cond (same_as a a) (same_as b b) false) ≡ true
    go true same = eq-eqb b.0 a.0 (sym (eqb-true a.0 b.0 same))
    go false other = rw (eq-eqb a.0 a.0 refl) (eq-eqb b.0 b.0 refl)

way_linked : (ls : List Adjacency) (p : As × As) → Contains (ways ls) p → has_adjacency p.0 p.1 ls ≡ true
way_linked [] p has = absurd (contains_none p has)
way_linked (x ∷ xs) p has = elim (contains_cases (x.lower, x.upper) ((x.upper, x.lower) ∷ ways xs) p has) [
  | inl same ↦ subst (λ (q : As × As). has_adjacency q.0 q.1 (x ∷ xs) ≡ true) same (rw (eq-eqb x.lower.0 x.lower.0 refl) (rw (eq-eqb x.upper.0 x.upper.0 refl) refl))
  | inr there ↦ elim (contains_cases (x.upper, x.lower) (ways xs) p there) [
    | inl same ↦ subst (λ (q : As × As). has_adjacency q.0 q.1 (x ∷ xs) ≡ true) same (ap (λ (b : Bool). cond b true (has_adjacency x.upper x.lower xs)) (turned_link x.lower x.upper))
    | inr more ↦ go (same_link x.lower x.upper p.0 p.1) (way_linked xs p more)
  ]
]
  where
    go : (b : Bool) → has_adjacency p.0 p.1 xs ≡ true → cond b true (has_adjacency p.0 p.1 xs) ≡ true
    go true e = refl
    go false e = e

module _ (P : Type 0) (S : Type 0) (c : Codec) (n : NetworkParts) (show : S → List Hop) (s : State P S) where
  carry_accepted : (a b : As) (linked : Bool) (queue : List Bytes) → linked ≡ true → not (is_empty queue) ≡ true →
      is_accepted (cond linked (events.carry_first P S c n show a b s queue) (events.refused P S c n show refused.NoSuchPeer s)).answer ≡ true
  carry_accepted a b true (x ∷ rest) is waits = refl
  carry_accepted a b true [] is waits = absurd (let no : false ≡ true = waits in cc)
  carry_accepted a b false queue is waits = absurd (let no : false ≡ true = is in cc)

  -- the message of the least pair is carried
  pub can_carry : (a b : As) → IsLeast n s (a, b) → (h : Happened P S) → h ≡ events.carry P S c n show a b s → is_accepted h.answer ≡ true
  can_carry a b least h happens =
      subst (λ (x : Happened P S). is_accepted x.answer ≡ true) (sym happens)
      (carry_accepted a b (is_linked n a b) (s.queues a b) (way_linked (adjacencies n) (a, b) least.there) least.waits)

-- ---- what is on its way in a flow, of a state with its queues

module _ {P : Type 0} {S : Type 0} (n : NetworkParts) (f : Flow) (s : State P S) where
  pub settled_here : s.queues ≡ f.queues → WaitsNext f None → f.adjacencies ≡ adjacencies n → IsSettled n s
  settled_here same waits along =
      subst (λ (q : As → As → List Bytes). All (λ (p : As × As). not (is_empty (q p.0 p.1)) ≡ false) (ways (adjacencies n))) (sym same)
      (subst (λ (xs : List Adjacency). All (λ (p : As × As). not (is_empty (f.queues p.0 p.1)) ≡ false) (ways xs)) along waits)

  pub least_here : (p : As × As) → s.queues ≡ f.queues → WaitsNext f (Some p) → f.adjacencies ≡ adjacencies n → IsLeast n s p
  least_here p same waits along = record {
    there = subst (λ (xs : List Adjacency). Contains (ways xs) p) along waits.there;
    waits = subst (λ (q : As → As → List Bytes). not (is_empty (q p.0 p.1)) ≡ true) (sym same) waits.waits;
    least =
        subst (λ (q : As → As → List Bytes). All (λ (r : As × As). not (is_empty (q r.0 r.1)) ≡ true → IsAtMost p r) (ways (adjacencies n))) (sym same)
        (subst (λ (xs : List Adjacency). All (λ (r : As × As). not (is_empty (f.queues r.0 r.1)) ≡ true → IsAtMost p r) (ways xs)) along waits.least);
  }
