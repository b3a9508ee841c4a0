-- Tight links and segments under a lower cap.
use Rattle.std.proofs.Common.{ℕ, ◌≤◌, List, subst, Some}
use Rattle.std.specs.declared.option.Option.{Option}
use Rattle.dom_base.specs.declared.addr.Addr.{Addr}
use Rattle.dom_base.specs.declared.link.Link.{Link}
use Rattle.dom_base.specs.declared.query.Query.{Query}
use Rattle.dom_base.specs.declared.query.Seed.{Seed}
use Rattle.dom_base.specs.declared.query.Label.{Label}
use Rattle.te_links.specs.Rows.{Rows}
use Rattle.walk_laws.specs.Capped.{capped}
use Rattle.walk_laws.specs.Labels.{IsLabel}
use Rattle.walk_laws.proofs.Capping.{node, link, segment_up}
use Rattle.path_search.specs.declared.chosen.Step.{Step}
use Rattle.path_search.specs.Search.{AreLabels}
use Rattle.path_search.specs.Segments.{AreOpen, Makes, IsTightAt, IsLoose, IsFirstTight, HasSegment}

makes : (c d : ℕ) (g : Rows) (q : Query) (labels : List (Option Label)) (n : Addr) (a : Label) (l : Link) (head : ℕ) (rest : Label) →
    Makes g (capped c q) labels n a l head rest → Makes g (capped d q) labels n a l head rest
makes c d g q labels n a l head rest m = record { from = m.from; admitted = link c d g q l m.admitted; at_head = m.at_head; label = m.label; sum = m.sum; exit = m.exit }

-- a link that is loose is loose under any cap
pub loose_under : (c : ℕ) (g : Rows) (q : Query) (labels : List (Option Label)) (n : Addr) (a : Label) (i : ℕ) → IsLoose g q labels n a i → IsLoose g (capped c q) labels n a i
loose_under c g q labels n a i loose l head rest at m = loose l head rest at (makes c q.cap g q labels n a l head rest m)

-- the first tight link is so under any cap
pub first_under : (c : ℕ) (g : Rows) (q : Query) (labels : List (Option Label)) (n : Addr) (a : Label) (step : Step) →
    IsFirstTight g q labels n a (Some step) → IsFirstTight g (capped c q) labels n a (Some step)
first_under c g q labels n a step first = (
  record {
    same_index = first.0.same_index;
    link = first.0.link;
    at_link = first.0.at_link;
    makes = makes q.cap c g q labels n a first.0.link step.head step.rest first.0.makes;
  },
  (λ i before. loose_under c g q labels n a i (first.1 i before)),
)

-- labels of nodes that are admitted under one cap
pub open_over : (c : ℕ) (g : Rows) (q : Query) (labels : List (Option Label)) → AreOpen g (capped c q) labels → AreOpen g q labels
open_over c g q labels are = record { same_length = are.same_length; admitted = λ i n b at_i at_label. node c q.cap g q n (are.admitted i n b at_i at_label) }

-- the chosen segment under a lower cap is chosen
pub segment_over : (c : ℕ) (g : Rows) (q : Query) (seeds : List Seed) (labels : List (Option Label)) (from : ℕ) (path : List ℕ) → c ≤ q.cap →
    AreLabels g (capped c q) seeds labels → HasSegment g (capped c q) seeds labels from path → HasSegment g q seeds labels from path
segment_over c g q seeds labels from path lower are has =
    let is : IsLabel g (capped c q) seeds has.node (Some has.label) = subst (IsLabel g (capped c q) seeds has.node) has.at_label (are.each from has.node has.at_node) in
    record {
      node = has.node;
      at_node = has.at_node;
      label = has.label;
      at_label = has.at_label;
      links = has.links;
      at_links = has.at_links;
      segment = segment_up c q.cap g q seeds has.node has.label has.links lower is.0.within has.segment;
    }
