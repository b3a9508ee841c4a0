-- What one relaxation keeps and lowers.
use Rattle.std.proofs.Common.{◌≡◌, ◌≢◌, inl, inr, ℕ, ◌+◌, ◌<◌, ◌≤◌, List, length, arith, sym, ◌∙◌, ap, subst, None, Some}
use Rattle.std.specs.Prelude.{Contains, slice_set}
use Rattle.std.specs.declared.option.Option.{Option}
use Rattle.std.proofs.lemmas.Bool.Decides.{eqb_tells}
use Rattle.std.proofs.lemmas.List.{get_or-set_same, get_or-set_other}
use Rattle.std.proofs.Math.ListN.{length-set}
use Rattle.dom_base.specs.AddrOrder.{rank}
use Rattle.dom_base.specs.declared.query.Label.{Label}
use Rattle.walk_laws.specs.Labels.{◌≼◌}
use Rattle.walk_laws.specs.Certificate.{AtMost}
use Rattle.walk_laws.proofs.Lower.{le_trans}
use Rattle.path_search.specs.declared.arc.Arc.{Arc}
use Rattle.path_search.specs.Arcs.{label_at, IsArcAmong, joined, IsBelow, IsRelaxed, Lowers, IsSupportedBy, Keeps}

-- a label is written at a place, and stands there; elsewhere nothing changes
pub record IsWritten (old new : List (Option Label)) (t : ℕ) (v : Label) : Type 0 where
  pub here : label_at new t ≡ Some v
  pub others : (i : ℕ) → i ≢ t → label_at new i ≡ label_at old i

pub written : (old new : List (Option Label)) (t : ℕ) (v : Label) → t < length old → new ≡ slice_set old t (Some v) → IsWritten old new t v
written old new t v below is = record {
  here = rw is (get_or-set_same old t (Some v) None below);
  others = λ i other. rw is (get_or-set_other old t i (Some v) None other);
}

below_le : (b a : Label) → IsBelow b (Some a) → b ≼ a
below_le b a (inl lt) = inl lt
below_le b a (inr le) = inr (le.0, omega (arith, le.1))

pub below_most : (b : Label) (o : Option Label) (c : Label) → IsBelow b o → AtMost o c → b ≼ c
below_most b None c below most = absurd most
below_most b (Some a) c below most = le_trans b a c (below_le b a below) most

-- a label isn't lowered by an arc from a place to itself
pub no_loop : (a : Arc) (r : Label) (o : Option Label) → 1 ≤ a.weight → o ≡ Some r → IsBelow (joined a r) o → ⊥
no_loop a r None heavy is below = cc
no_loop a r (Some s) heavy is (inl lt) = let same : s ≡ r = cc in omega (arith, ap (λ (b : Label). b.cost) same)
no_loop a r (Some s) heavy is (inr le) = let same : s ≡ r = cc in omega (arith, le.0, ap (λ (b : Label). b.cost) same)

joined_le : (a : Arc) (r s : Label) → r ≼ s → joined a r ≼ joined a s
joined_le a r s (inl lt) = inl (omega (arith, lt))
joined_le a r s (inr le) = inr (ap (λ n. a.weight + n) le.0, le.1)

pub same_le : (a b : Label) → a ≡ b → a ≼ b
same_le a b same = inr (ap (λ (c : Label). c.cost) same, omega (arith, ap (λ (c : Label). rank c.exit) same))

-- what a lowered label stands for still supports what it supported
pub moved : (old new : List (Option Label)) (t : ℕ) (v : Label) → IsWritten old new t v → IsBelow v (label_at old t) →
    (i : ℕ) (b : Label) (a : Arc) → IsSupportedBy old i b a → IsSupportedBy new i b a
moved old new t v w better i b a s =
    elim (eqb_tells a.head t) [
      | inl same ↦
          let was : label_at old t ≡ Some s.rest = ap (label_at old) (sym same.1) ∙ s.at_head in
          let below : IsBelow v (Some s.rest) = subst (λ (o : Option Label). IsBelow v o) was better in
          record {
            tail = s.tail;
            rest = v;
            at_head = ap (label_at new) same.1 ∙ w.here;
            no_more = le_trans (joined a v) (joined a s.rest) b (joined_le a v s.rest (below_le v s.rest below)) s.no_more;
          }
      | inr other ↦ record {
        tail = s.tail;
        rest = s.rest;
        at_head = w.others a.head other.1 ∙ s.at_head;
        no_more = s.no_more;
      }
    ]

pub lowers_keeps : (cap : ℕ) (arcs : List Arc) (a : Arc) (old new : List (Option Label)) →
    Contains arcs a → IsArcAmong (length old) a → Lowers cap a old new → Keeps cap arcs old new
lowers_keeps cap arcs a old new is_arc among low =
    let v : Label = joined a low.rest in
    let w : IsWritten old new a.tail v = written old new a.tail v among.tail low.is in
    let differs : a.head ≢ a.tail =
    λ same. no_loop a low.rest (label_at old a.tail) among.heavy (ap (label_at old) (sym same) ∙ low.at_head) low.better in
    record {
      same_length = ap length low.is ∙ simp length-set;
      supported = λ start before i b is.
          elim (eqb_tells i a.tail) [
            | inl same ↦
                let is_v : Some v ≡ Some b = sym w.here ∙ ap (label_at new) (sym same.1) ∙ is in
                let v_is : v ≡ b = cc in
                record {
                  within = subst (λ (c : Label). c.cost ≤ cap) v_is low.within;
                  made = inr (
                    a,
                    is_arc,
                    record {
                      tail = sym same.1;
                      rest = low.rest;
                      at_head = w.others a.head differs ∙ low.at_head;
                      no_more = same_le v b v_is;
                    },
                  );
                }
            | inr other ↦
                let s = before i b (sym (w.others i other.1) ∙ is) in
                record {
                  within = s.within;
                  made = elim s.made [
                    | inl first ↦ inl first
                    | inr by_arc ↦ inr (by_arc.0, by_arc.1, moved old new a.tail v w low.better i b by_arc.0 by_arc.2)
                  ];
                }
          ];
      no_higher = λ start before i b is.
          elim (eqb_tells i a.tail) [
            | inl same ↦
                let most : AtMost (label_at old a.tail) b = subst (λ n. AtMost (label_at old n) b) same.1 (before i b is) in
                let here : label_at new i ≡ Some v = ap (label_at new) same.1 ∙ w.here in
                subst (λ (o : Option Label). AtMost o b) (sym here) (below_most v (label_at old a.tail) b low.better most)
            | inr other ↦ subst (λ (o : Option Label). AtMost o b) (sym (w.others i other.1)) (before i b is)
          ];
    }

-- a label is not both below what stands at a place and at least that
below_not_most : (b : Label) (o : Option Label) → IsBelow b o → AtMost o b → ⊥
below_not_most b None below most = most
below_not_most b (Some a) (inl lt) (inl lt') = omega (arith, lt, lt')
below_not_most b (Some a) (inl lt) (inr le') = omega (arith, lt, le'.0)
below_not_most b (Some a) (inr le) (inl lt') = omega (arith, le.0, lt')
below_not_most b (Some a) (inr le) (inr le') = omega (arith, le.1, le'.1)

-- an arc that lowers a label is not relaxed
pub low_not_relaxed : (cap : ℕ) (old new : List (Option Label)) (a : Arc) → Lowers cap a old new → IsRelaxed cap old a → ⊥
low_not_relaxed cap old new a low relaxed = below_not_most (joined a low.rest) (label_at old a.tail) low.better (relaxed low.rest low.at_head low.within)
