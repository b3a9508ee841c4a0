-- From labels to pairs of entries, and the node beyond an exit.
use Rattle.std.proofs.Common.{◌≡◌, ℕ, ◌<◌, List, ◌∷◌, refl, sym, ◌∙◌, ap, subst, Some, None}
use Rattle.std.specs.Prelude.{AllPairs, Contains, MatchOption, slice_get}
use Rattle.std.specs.declared.option.Option.{Option}
use Rattle.dom_base.specs.AddrOrder.{rank}
use Rattle.dom_base.specs.declared.addr.Addr.{Addr}
use Rattle.dom_base.specs.declared.names.As.{As}
use Rattle.dom_base.specs.declared.link.Link.{Link}
use Rattle.dom_base.specs.declared.query.Query.{Query}
use Rattle.dom_base.specs.declared.query.Seed.{Seed}
use Rattle.dom_base.specs.declared.query.Label.{Label}
use Rattle.te_links.specs.declared.rows.OutLink.{OutLink}
use Rattle.te_links.specs.Rows.{Rows, IsInOrder}
use Rattle.walk_laws.specs.Labels.{IsLabel, IsSegment}
use Rattle.walk_laws.specs.Borders.{AreBorderSeeds}
use Rattle.walk_laws.proofs.Admitted.{reaches_admits}
use Rattle.walk_laws.proofs.Joining.{label_joins, label_joins_at}
use Rattle.walk_laws.proofs.Segments.{one_of}
use Rattle.path_search.specs.Arcs.{label_at}
use Rattle.path_search.specs.Search.{AreLabels}
use Rattle.path_search.specs.Segments.{AreAt, HasSegment}
use Rattle.border_costs.specs.declared.job.Target.{Target}
use Rattle.border_costs.specs.declared.job.Target.TheVariants.{Node, Next}
use Rattle.border_costs.specs.declared.job.Down.{Down}
use Rattle.border_costs.specs.declared.job.Ask.{Ask}
use Rattle.border_costs.specs.Asks.{beyond, target_seed, AreSeeds, AreSeedsTo, IsPair, IsPairTo, HasNoPair}
use Rattle.border_costs.specs.Solutions.{IsHeadOf, HasNoOut, IsHead, IsBest}
use Rattle.path_search.proofs.OpenForm.{fars}

pair_to : (g : Rows) (q : Query) (down : List Down) (seeds : List Seed) (t : Target) → AreSeedsTo g q down t seeds →
    (entry : Addr) (o : Option Label) → IsLabel g q seeds entry o → IsPairTo g q down entry t o
pair_to g q down seeds (Node t) are entry o is = label_joins_at g q t (target_seed t) refl refl refl entry o (subst (λ (s : List Seed). IsLabel g q s entry o) are is)
pair_to g q down seeds (Next b) are entry o is = label_joins g q b (beyond down) seeds are entry o is

module _ (g : Rows) (ask : Ask) (seeds : List Seed) (are : AreSeeds g ask seeds) where
  pub pair_of : (entry : Addr) (o : Option Label) → IsLabel g ask.query seeds entry o → IsPair g ask entry o
  pair_of = pair_to g ask.query ask.down seeds ask.target are.are

  -- an entry that is no node has no pair
  pub no_node : (entry : Addr) → ¬ Contains g.nodes entry → HasNoPair g ask entry
  no_node entry out = pair_of entry None (λ a r. out (reaches_admits g ask.query seeds entry a r).is_node)

pub label_is : (g : Rows) (q : Query) (seeds : List Seed) (labels : List (Option Label)) (from : ℕ) (n : Addr) (o : Option Label) →
    AreLabels g q seeds labels → slice_get g.nodes from ≡ Some n → label_at labels from ≡ o → IsLabel g q seeds n o
label_is g q seeds labels from n o are at_n at_label = subst (IsLabel g q seeds n) at_label (are.each from n at_n)

-- far addresses of out links differ
pub one_out : (outs : List OutLink) → AllPairs (λ o p. rank o.link.far < rank p.link.far) outs → (o p : OutLink) → Contains outs o → Contains outs p → o.link.far ≡ p.link.far → o ≡ p
one_out outs rising o p in-o in-p far = one_of (λ (x : OutLink). rank x.link.far) outs rising o p in-o in-p (ap rank far)

-- the head that stands with the exit's far address is the head of the exit
pub head_is : (g : Rows) (q : Query) (b : As) (down : List Down) (seeds : List Seed) → AreBorderSeeds g q b (beyond down) seeds → IsInOrder g →
    (entry : Addr) (a : Label) → IsLabel g q seeds entry (Some a) → (o : Option Addr) → MatchOption o (HasNoOut g a.exit) (IsHeadOf g a.exit) → IsHead g q down (Next b) a.exit o
head_is g q b down seeds are order entry a is None none =
    let found = are.each is.0.seed is.0.is_seed in
    absurd (none found.0 found.1.out.is_out (sym (is.0.exit ∙ found.1.exit)))
head_is g q b down seeds are order entry a is (Some h) head =
    let found = are.each is.0.seed is.0.is_seed in
    let out = found.0 in
    let far : out.link.far ≡ a.exit = sym (is.0.exit ∙ found.1.exit) in
    let same : head.0 ≡ out = one_out g.outs order.outs head.0 out head.1 found.1.out.is_out (head.2 ∙ sym far) in
    record {
      out = out;
      seed = is.0.seed;
      least = found.1;
      is_exit = far;
      is_head = ap Some (sym head.3 ∙ ap (λ (o : OutLink). o.link.to) same);
    }

-- a node with a label has its best way
pub best_is : (g : Rows) (ask : Ask) (seeds : List Seed) (labels : List (Option Label)) (from : ℕ) (entry : Addr) (a : Label) (places : List ℕ) (shown : List Addr) (head : Option Addr) →
    AreSeeds g ask seeds → IsLabel g ask.query seeds entry (Some a) → slice_get g.nodes from ≡ Some entry → label_at labels from ≡ Some a →
    HasSegment g ask.query seeds labels from places → ((ls : List Link) → AreAt g.links places ls → shown ≡ entry ∷ fars ls) → IsHead g ask.query ask.down ask.target a.exit head →
    IsBest g ask seeds entry (record { entry = entry; cost = a.cost; exit = a.exit; head = head; segment = shown })
best_is g ask seeds labels from entry a places shown head seeded is at_entry at_a has hopped is_head =
    let nodes : Some has.node ≡ Some entry = sym has.at_node ∙ at_entry in
    let node : has.node ≡ entry = cc in
    let both : Some has.label ≡ Some a = sym has.at_label ∙ at_a in
    let label : has.label ≡ a = cc in
    let segment : IsSegment g ask.query seeds entry a has.links =
    subst (λ (b : Label). IsSegment g ask.query seeds entry b has.links) label (subst (λ (n : Addr). IsSegment g ask.query seeds n has.label has.links) node has.segment) in
    record {
      is_entry = refl;
      pair = pair_of g ask seeds seeded entry (Some a) is;
      label = is;
      is_head = is_head;
      links = has.links;
      chosen = segment;
      shown = hopped has.links has.at_links;
    }
