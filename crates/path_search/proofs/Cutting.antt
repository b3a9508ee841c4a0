-- Labels that are cut by their cost are labels under a lower cap.
use Rattle.std.proofs.Common.{◌≡◌, inl, inr, ℕ, zero, suc, ◌≤◌, List, [], ◌∷◌, map, refl, sym, ◌∙◌, subst, None, Some}
use Rattle.std.specs.Prelude.{Contains, slice_get}
use Rattle.std.specs.declared.option.Option.{Option}
use Rattle.std.proofs.lemmas.List.{length-map}
use Rattle.dom_base.specs.declared.addr.Addr.{Addr}
use Rattle.dom_base.specs.declared.query.Query.{Query}
use Rattle.dom_base.specs.declared.query.Seed.{Seed}
use Rattle.dom_base.specs.declared.query.Label.{Label}
use Rattle.te_links.specs.Rows.{Rows}
use Rattle.walk_laws.specs.Labels.{IsLabel}
use Rattle.walk_laws.specs.Capped.{capped, cut}
use Rattle.walk_laws.proofs.Capping.{up, label_cut}
use Rattle.path_search.specs.Arcs.{label_at}
use Rattle.path_search.specs.Search.{AreLabels}
use Rattle.path_search.specs.Early.{CutLabels, AreLabelsTo, StopsAreLabelled}

pub cut_at : (c : ℕ) (labels : List (Option Label)) (i : ℕ) → label_at (map (cut c) labels) i ≡ cut c (label_at labels i)
cut_at c [] i = refl
cut_at c (o ∷ labels) zero = refl
cut_at c (o ∷ labels) (suc i) = cut_at c labels i

-- labels without those that cost more than a lower cap are the labels under it
pub cut_all : CutLabels
cut_all g q seeds c d labels lower are = record {
  same_length = length-map labels (cut c) ∙ are.same_length;
  each = λ i n at_i. subst (IsLabel g (capped c q) seeds n) (sym (cut_at c labels i)) (label_cut c d g q seeds n (label_at labels i) lower (are.each i n at_i));
}

-- a node that the search was to reach has its label of the query itself, or has none there either
pub stops_labelled : StopsAreLabelled
stops_labelled g q seeds stops labels reach to i n is_stop at_i =
    let is : IsLabel g (capped reach q) seeds n (label_at labels i) = to.are_labels.each i n at_i in
    elim (to.reached i is_stop) [
      | inl has ↦
          let a = has.0 in
          let at_a : IsLabel g (capped reach q) seeds n (Some a) = subst (IsLabel g (capped reach q) seeds n) has.1 is in
          subst (IsLabel g q seeds n) (sym has.1) (up reach q.cap g q seeds n a to.within at_a)
      | inr whole ↦ subst (λ c. IsLabel g (capped c q) seeds n (label_at labels i)) whole is
    ]
