-- A chosen segment, one kept link after the other.
use Rattle.std.proofs.Common.{◌≡◌, ℕ, ◌<◌, List, [], ◌∷◌, ◌++◌, length, append_assoc, arith, refl, sym, ◌∙◌, ap, subst, None, Some}
use Rattle.std.specs.Prelude.{slice_get}
use Rattle.std.specs.declared.option.Option.{Option}
use Rattle.std.proofs.lemmas.List.{append-nil, map-append}
use Rattle.std.proofs.lemmas.List.Elements.{All-contains}
use Rattle.std.proofs.lemmas.Option.{slice_get_within}
use Rattle.dom_base.specs.declared.addr.Addr.{Addr}
use Rattle.dom_base.specs.declared.link.Link.{Link}
use Rattle.dom_base.specs.declared.query.Query.{Query}
use Rattle.dom_base.specs.declared.query.Seed.{Seed}
use Rattle.dom_base.specs.declared.query.Label.{Label}
use Rattle.te_links.specs.Rows.{Rows, IsTopology, IsInnerLink}
use Rattle.walk_laws.specs.Labels.{IsChosen, IsSegment}
use Rattle.walk_laws.proofs.Reached.{weight_positive}
use Rattle.walk_laws.proofs.Tight.{label_unique}
use Rattle.path_search.specs.Arcs.{label_at}
use Rattle.path_search.proofs.OpenForm.{fars}
use Rattle.cost_cache.specs.declared.kept.Kept.{Kept}
use Rattle.cost_cache.specs.declared.kept.Next.{Next}
use Rattle.cost_cache.specs.Entries.{Leads, IsNext, AreKept, next_at}
use Rattle.cost_cache.specs.Shown.{HasShown}

-- The segment from an entry has come as far as a place: whatever goes on from there goes on from the entry.
pub record IsUnderway (g : Rows) (q : Query) (seeds : List Seed) (kept : Kept) (entry : Addr) (a : Label) (place : ℕ) (shown : List Addr) : Type 0 where
  pub node : Addr
  pub at_node : slice_get g.nodes place ≡ Some node
  pub label : Label
  pub at_label : label_at kept.labels place ≡ Some label
  pub done : List Link
  pub goes_on : (ls : List Link) → IsSegment g q seeds node label ls → IsSegment g q seeds entry a (done ++ ls)
  pub is : shown ≡ entry ∷ fars done

abbrev pub cost_of : Option Label → ℕ
cost_of None = 0
cost_of (Some a) = a.cost

-- what is left of the cost at a place
abbrev pub cost_at : List (Option Label) → ℕ → ℕ
cost_at labels place = cost_of (label_at labels place)

cost_is : (labels : List (Option Label)) (place : ℕ) (a : Label) → label_at labels place ≡ Some a → cost_at labels place ≡ a.cost
cost_is labels place a at = ap cost_of at

module _ (g : Rows) (q : Query) (seeds : List Seed) (kept : Kept) (are : AreKept g q seeds kept) where
  next_here : (place : ℕ) (n : Addr) (a : Label) (o : Option Next) → slice_get g.nodes place ≡ Some n → label_at kept.labels place ≡ Some a → next_at kept.nexts place ≡ o → IsNext g q seeds n a o
  next_here place n a o at_n at_a is = subst (IsNext g q seeds n a) is (are.nexts.each place n a at_n at_a)

  -- the label of a next link's end
  rest_at : (x : Next) (n : Addr) (a : Label) (l : Link) (rest : Label) → IsChosen g q seeds n a l rest → Leads g l x → label_at kept.labels x.end ≡ Some rest
  rest_at x n a l rest is leads = label_unique g q seeds l.to (label_at kept.labels x.end) rest (are.labels.each x.end l.to leads.end) is.tight.at_end

  module _ (entry : Addr) (a : Label) where
    pub set_out : (from : ℕ) → slice_get g.nodes from ≡ Some entry → label_at kept.labels from ≡ Some a → IsUnderway g q seeds kept entry a from (entry ∷ [])
    set_out from at_entry at_a = record { node = entry; at_node = at_entry; label = a; at_label = at_a; done = []; goes_on = λ ls s. s; is = refl }

    pub go_on : (place : ℕ) (shown : List Addr) (x : Next) → IsUnderway g q seeds kept entry a place shown → next_at kept.nexts place ≡ Some x →
        IsUnderway g q seeds kept entry a x.end (shown ++ x.far ∷ [])
    go_on place shown x way is =
        let next = next_here place way.node way.label (Some x) way.at_node way.at_label is in
        let l : Link = next.1.0 in
        let rest : Label = next.1.1 in
        let leads = next.1.3 in
        record {
          node = l.to;
          at_node = leads.end;
          label = rest;
          at_label = rest_at x way.node way.label l rest next.1.2 leads;
          done = way.done ++ l ∷ [];
          goes_on = λ ls s. rw append_assoc (way.goes_on (l ∷ ls) (next.0, (rest, next.1.2, s)));
          is = ap (λ (xs : List Addr). xs ++ x.far ∷ []) way.is
              ∙ ap (λ (f : Addr). (entry ∷ fars way.done) ++ f ∷ []) leads.far
              ∙ ap (λ (xs : List Addr). entry ∷ xs) (sym (map-append (λ (k : Link). k.far) way.done (l ∷ [])));
        }

    pub arrive : (place : ℕ) (shown : List Addr) → IsUnderway g q seeds kept entry a place shown → next_at kept.nexts place ≡ None → HasShown g q seeds entry a shown
    arrive place shown way is = record {
      links = way.done;
      segment = rw (← append-nil way.done) (way.goes_on [] (next_here place way.node way.label None way.at_node way.at_label is));
      is = way.is;
    }

    pub inside : (place : ℕ) (shown : List Addr) → IsUnderway g q seeds kept entry a place shown → place < length kept.nexts
    inside place shown way = omega (arith, slice_get_within g.nodes place way.node way.at_node, are.nexts.same_length)

    -- a link goes to a smaller label
    pub falls : (place : ℕ) (shown : List Addr) (x : Next) → IsTopology g → IsUnderway g q seeds kept entry a place shown → next_at kept.nexts place ≡ Some x →
        cost_at kept.labels x.end < cost_at kept.labels place
    falls place shown x valid way is =
        let next = next_here place way.node way.label (Some x) way.at_node way.at_label is in
        let l : Link = next.1.0 in
        let tight = next.1.2.tight in
        let heavy = weight_positive g.nodes q.metric l (All-contains (IsInnerLink g.nodes) g.links l valid.links tight.admitted.is_link) in
        omega (
          arith,
          heavy,
          tight.sum,
          cost_is kept.labels place way.label way.at_label,
          cost_is kept.labels x.end next.1.1 (rest_at x way.node way.label l next.1.1 next.1.2 next.1.3),
        )
