-- Arcs that run along links stand among the places of the links that begin or end at their ends.
use Rattle.std.proofs.Common.{◌≡◌, inl, inr, ℕ, ◌<◌, Bool, true, false, List, ◌++◌, length, arith, refl, sym, ◌∙◌, ap, subst, None, Some}
use Rattle.std.specs.Prelude.{All, Contains, slice_get, slice_index_or}
use Rattle.std.specs.declared.option.Option.{Option}
use Rattle.std.proofs.lemmas.Bool.Decides.{eqb_tells}
use Rattle.std.proofs.lemmas.List.Elements.{All-contains, Contains-append_left, Contains-append_right}
use Rattle.std.proofs.lemmas.Option.{slice_get_within}
use Rattle.dom_base.specs.declared.query.Query.{Query}
use Rattle.te_links.specs.Rows.{Rows, IsTopology, IsInnerLink}
use Rattle.te_links.specs.Index.{IsLinksInto, IsLinksFrom}
use Rattle.path_search.proofs.Certified.{weight_bounds}
use Rattle.diverse_pairs.specs.declared.arcs.Arc.{Arc}
use Rattle.diverse_pairs.specs.declared.arcs.TheConstants.{UNREACHED}
use Rattle.diverse_pairs.specs.Arcs.{IsArc, at, is_used, IsAmong, AreAmong}
use Rattle.diverse_pairs.specs.Along.{IsAlong, AreAlong}
use Rattle.diverse_pairs.specs.Network.{AreArcs}
use Rattle.diverse_pairs.specs.Residual.{residual_arc, residual_of, AreResidual}
use Rattle.diverse_pairs.proofs.Linked.{arc_link}

pub arcs_along : (g : Rows) (q : Query) (arcs : List (Option Arc)) → IsTopology g → AreArcs g q arcs → AreAlong g arcs
arcs_along g q arcs valid are = record {
  long = are.long;
  each = λ i a is_arc.
      let of = arc_link g q arcs are i a is_arc in
      let bounds = weight_bounds g.nodes q.metric of.link (All-contains (IsInnerLink g.nodes) g.links of.link valid.links of.at_place.admitted.is_link) in
      record { link = of.link; at_link = of.at_place.at_link; ends = inl (of.tail, of.head); heavy = omega (arith, of.weight, bounds.0) };
}

arc_turned : (g : Rows) (ds : List ℕ) (used : Bool) (i : ℕ) (a : Arc) → IsAlong g i a → IsAlong g i (residual_arc ds used a)
arc_turned g ds false i a along = record { link = along.link; at_link = along.at_link; ends = along.ends; heavy = omega arith }
arc_turned g ds true i a along = record {
  link = along.link;
  at_link = along.at_link;
  ends = elim along.ends [ inl on ↦ inr (on.1, on.0) | inr back ↦ inl (back.1, back.0) ];
  heavy = omega arith;
}

-- so do those that a walk leaves
pub residual_along : (g : Rows) (arcs rs : List (Option Arc)) (ds : List ℕ) (us : List Bool) → AreAlong g arcs → AreResidual arcs ds us rs → AreAlong g rs
residual_along g arcs rs ds us along residual = record {
  long = residual.long ∙ along.long;
  each = λ i r is_r. go i r is_r (slice_index_or arcs i None) refl;
}
  where
    go : (i : ℕ) (r : Arc) → IsArc rs i r → (o : Option Arc) → slice_index_or arcs i None ≡ o → IsAlong g i r
    go i r is_r None is_o =
        let e : slice_index_or rs i None ≡ residual_of ds (is_used us i) None = residual.each i ∙ ap (residual_of ds (is_used us i)) is_o in
        let none : None ≡ Some r = sym e ∙ is_r in cc
    go i r is_r (Some a) is_o =
        let e : slice_index_or rs i None ≡ residual_of ds (is_used us i) (Some a) = residual.each i ∙ ap (residual_of ds (is_used us i)) is_o in
        elim (eqb_tells (at ds a.head) UNREACHED) [
          | inl far ↦ let none : None ≡ Some r = sym (rw far.0 at e) ∙ is_r in cc
          | inr reached ↦
              let both : Some (residual_arc ds (is_used us i) a) ≡ Some r = sym (rw reached.0 at e) ∙ is_r in
              let same : residual_arc ds (is_used us i) a ≡ r = cc in
              subst (IsAlong g i) same (arc_turned g ds (is_used us i) i a (along.each i a is_o))
        ]

module _ (g : Rows) (arcs : List (Option Arc)) (along : AreAlong g arcs) where
  pub arc_inside : (i : ℕ) (a : Arc) → IsArc arcs i a → IsAmong (length g.nodes) a
  arc_inside i a is_arc =
      let one = along.each i a is_arc in
      elim one.ends [
        | inl on ↦ record { tail = slice_get_within g.nodes a.tail one.link.from on.0; head = slice_get_within g.nodes a.head one.link.to on.1; heavy = one.heavy }
        | inr back ↦ record { tail = slice_get_within g.nodes a.tail one.link.to back.0; head = slice_get_within g.nodes a.head one.link.from back.1; heavy = one.heavy }
      ]

  pub along_among : (n : ℕ) → n ≡ length g.nodes → AreAmong n arcs
  along_among n long i a is_arc = subst (λ m. IsAmong m a) (sym long) (arc_inside i a is_arc)

  -- an arc that leads to a node stands among the places of the links at the node
  pub leads_there : (v : ℕ) (into from : List ℕ) → IsLinksInto g.nodes g.links v into → IsLinksFrom g.nodes g.links v from → (i : ℕ) (a : Arc) → IsArc arcs i a → a.head ≡ v →
      Contains (into ++ from) i
  leads_there v into from are_into are_from i a is_arc here =
      let one = along.each i a is_arc in
      elim one.ends [
        | inl on ↦
            Contains-append_left into from i
            (are_into.whole i (record { link = one.link; at_link = one.at_link; at_node = subst (λ k. slice_get g.nodes k ≡ Some one.link.to) here on.1 }))
        | inr back ↦
            Contains-append_right into from i
            (are_from.whole i (record { link = one.link; at_link = one.at_link; at_node = subst (λ k. slice_get g.nodes k ≡ Some one.link.from) here back.1 }))
      ]

  -- and so does one that begins there
  pub begins_there : (v : ℕ) (into from : List ℕ) → IsLinksInto g.nodes g.links v into → IsLinksFrom g.nodes g.links v from → (i : ℕ) (a : Arc) → IsArc arcs i a → a.tail ≡ v →
      Contains (from ++ into) i
  begins_there v into from are_into are_from i a is_arc here =
      let one = along.each i a is_arc in
      elim one.ends [
        | inl on ↦
            Contains-append_left from into i
            (are_from.whole i (record { link = one.link; at_link = one.at_link; at_node = subst (λ k. slice_get g.nodes k ≡ Some one.link.from) here on.0 }))
        | inr back ↦
            Contains-append_right from into i
            (are_into.whole i (record { link = one.link; at_link = one.at_link; at_node = subst (λ k. slice_get g.nodes k ≡ Some one.link.to) here back.0 }))
      ]

  pub into_within : (v : ℕ) (into : List ℕ) → IsLinksInto g.nodes g.links v into → All (λ i. i < length arcs) into
  into_within v into are k d below = let ends = are.ends k d below in omega (arith, along.long, slice_get_within g.links (slice_index_or into k d) ends.link ends.at_link)

  pub from_within : (v : ℕ) (from : List ℕ) → IsLinksFrom g.nodes g.links v from → All (λ i. i < length arcs) from
  from_within v from are k d below = let begins = are.begins k d below in omega (arith, along.long, slice_get_within g.links (slice_index_or from k d) begins.link begins.at_link)
