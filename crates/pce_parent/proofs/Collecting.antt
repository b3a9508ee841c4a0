-- The edges of rows and links, one after the other.
use Rattle.std.proofs.Common.{◌≡◌, inl, inr, ℕ, ◌+◌, List, [], ◌∷◌, ◌++◌, arith, sym, ◌∙◌, subst, Some}
use Rattle.std.specs.Prelude.{slice_get}
use Rattle.std.proofs.lemmas.Bool.{cases_lt}
use Rattle.std.proofs.lemmas.Option.{same_Some}
use Rattle.std.proofs.lemmas.List.Elements.{All-push, Contains-push, Contains-append_left}
use Rattle.pce_common.specs.plant_model.Types.{ParentLink}
use Rattle.pce_common.specs.plant_model.declared.upper.ChildRow.{ChildRow}
use Rattle.pce_common.specs.plant_model.declared.upper.BorderJob.{BorderJob}
use Rattle.pce_parent.specs.declared.arcs.Arc.{Arc}
use Rattle.pce_parent.specs.declared.spot.Spot.{Spot}
use Rattle.pce_parent.specs.Arcs.{IsRowArc, IsNoRowArc, IsSomeRowArc, AreRowArcs, IsLinkArc, IsNoLinkArc, IsSomeLinkArc, AreLinkArcs}

module _ (j : BorderJob) (spots : List Spot) (n : ℕ) (arcs : List Arc) where
  pub row_skipped : (row : ChildRow) → slice_get j.rows n ≡ Some row → AreRowArcs j spots n arcs → IsNoRowArc j spots row → AreRowArcs j spots (n + 1) arcs
  row_skipped row at_n are none = record {
    each = are.each;
    every = λ i r below at_i not_barred k m at_k at_m.
        elim (cases_lt i n) [
          | inl lt ↦ are.every i r lt at_i not_barred k m at_k at_m
          | inr ge ↦
              let same : i ≡ n = omega arith in
              let one : r ≡ row = same_Some r row (sym at_i ∙ subst (λ q. slice_get j.rows q ≡ Some row) (sym same) at_n) in
              absurd (subst (IsNoRowArc j spots) (sym one) none not_barred k m at_k at_m)
        ];
  }

  pub row_pushed : (row : ChildRow) (a : Arc) → slice_get j.rows n ≡ Some row → AreRowArcs j spots n arcs → IsRowArc j spots n row a → AreRowArcs j spots (n + 1) (arcs ++ a ∷ [])
  row_pushed row a at_n are is = record {
    each = All-push (IsSomeRowArc j spots) arcs a are.each (record {
      row = row;
      at_index = subst (λ q. slice_get j.rows q ≡ Some row) (sym is.same_index) at_n;
      is_arc = subst (λ q. IsRowArc j spots q row a) (sym is.same_index) is;
    });
    every = λ i r below at_i not_barred k m at_k at_m.
        elim (cases_lt i n) [
          | inl lt ↦
              let old = are.every i r lt at_i not_barred k m at_k at_m in
              (old.0, Contains-append_left arcs (a ∷ []) old.0 old.1, old.2)
          | inr ge ↦
              let same : n ≡ i = omega arith in
              let one : row ≡ r = same_Some row r (sym at_n ∙ subst (λ q. slice_get j.rows q ≡ Some r) (sym same) at_i) in
              (a, Contains-push arcs a, subst (λ (x : ChildRow). IsRowArc j spots i x a) one (subst (λ q. IsRowArc j spots q row a) same is))
        ];
  }

  pub link_skipped : (l : ParentLink) → slice_get j.links n ≡ Some l → AreLinkArcs j spots n arcs → IsNoLinkArc j spots l → AreLinkArcs j spots (n + 1) arcs
  link_skipped l at_n are none = record {
    each = are.each;
    every = λ i r below at_i opened k m at_k at_m.
        elim (cases_lt i n) [
          | inl lt ↦ are.every i r lt at_i opened k m at_k at_m
          | inr ge ↦
              let same : i ≡ n = omega arith in
              let one : r ≡ l = same_Some r l (sym at_i ∙ subst (λ q. slice_get j.links q ≡ Some l) (sym same) at_n) in
              absurd (subst (IsNoLinkArc j spots) (sym one) none opened k m at_k at_m)
        ];
  }

  pub link_pushed : (l : ParentLink) (a : Arc) → slice_get j.links n ≡ Some l → AreLinkArcs j spots n arcs → IsLinkArc j spots n l a → AreLinkArcs j spots (n + 1) (arcs ++ a ∷ [])
  link_pushed l a at_n are is = record {
    each = All-push (IsSomeLinkArc j spots) arcs a are.each (record {
      link = l;
      at_index = subst (λ q. slice_get j.links q ≡ Some l) (sym is.same_index) at_n;
      is_arc = subst (λ q. IsLinkArc j spots q l a) (sym is.same_index) is;
    });
    every = λ i r below at_i opened k m at_k at_m.
        elim (cases_lt i n) [
          | inl lt ↦
              let old = are.every i r lt at_i opened k m at_k at_m in
              (old.0, Contains-append_left arcs (a ∷ []) old.0 old.1, old.2)
          | inr ge ↦
              let same : n ≡ i = omega arith in
              let one : l ≡ r = same_Some l r (sym at_n ∙ subst (λ q. slice_get j.links q ≡ Some r) (sym same) at_i) in
              (a, Contains-push arcs a, subst (λ (x : ParentLink). IsLinkArc j spots i x a) one (subst (λ q. IsLinkArc j spots q l a) same is))
        ];
  }
