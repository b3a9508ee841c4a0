-- A node that is barred is an end of no admitted link.
use Rattle.std.proofs.Common.{◌≡◌, ◌⊎◌, ◌∙◌, ℕ, List, Bool, true, false, length, [], ◌≤◌, Some, ap, sym, inl, inr, arith}
use Rattle.std.specs.Prelude.{slice_get}
use Rattle.std.proofs.lemmas.List.{get_or_past}
use Rattle.std.proofs.lemmas.Option.{slice_get_within}
use Rattle.dom_base.specs.declared.link.Link.{Link}
use Rattle.dom_base.specs.declared.query.Query.{Query}
use Rattle.te_links.specs.Rows.{Rows}
use Rattle.te_links.specs.Index.{LinkEndsAt}
use Rattle.path_search.specs.Asked.{is_barred, AreBarred, AreBarredUpTo}
use Rattle.path_search.specs.Search.{IsNoArc}

pub barred_no_arc : (g : Rows) (q : Query) (barred : List Bool) (read : Link) (tail head index : ℕ) → AreBarred g q barred → slice_get g.links index ≡ Some read →
    slice_get g.nodes tail ≡ Some read.from → LinkEndsAt g.nodes g.links head index → (is_barred barred tail ≡ true) ⊎ (is_barred barred head ≡ true) → IsNoArc g q index
barred_no_arc g q barred read tail head index are at_read at_tail ends bars l at admitted =
    let one : Some read ≡ Some l = sym at_read ∙ at in
    let read_is : read ≡ l = cc in
    let other : Some ends.link ≡ Some l = sym ends.at_link ∙ at in
    let end_is : ends.link ≡ l = cc in
    let from_at : slice_get g.nodes tail ≡ Some l.from = at_tail ∙ ap (λ (m : Link). Some m.from) read_is in
    let to_at : slice_get g.nodes head ≡ Some l.to = ends.at_node ∙ ap (λ (m : Link). Some m.to) end_is in
    elim bars [
      | inl here ↦ admitted.from.free ((are tail l.from from_at).0 here)
      | inr there ↦ admitted.to.free ((are head l.to to_at).0 there)
    ]

-- where nothing is excluded, no node is barred
pub none_barred : (g : Rows) (q : Query) → length q.exclusions ≡ 0 → AreBarred g q []
none_barred g q none i a at = (
  λ yes. absurd (let free : is_barred [] i ≡ false = get_or_past [] i false (omega arith) in let no : false ≡ true = sym free ∙ yes in cc),
  λ bars. absurd (omega (arith, none, bars.is_row.1)),
)

-- all nodes were looked at
pub all_barred : (g : Rows) (q : Query) (barred : List Bool) (m : ℕ) → AreBarredUpTo g q barred m → length g.nodes ≤ m → AreBarred g q barred
all_barred g q barred m are past i a at = are.each i a (omega (arith, past, slice_get_within g.nodes i a at)) at
