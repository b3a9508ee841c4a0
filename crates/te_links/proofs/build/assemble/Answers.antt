use Rattle.std.proofs.Common.{◌≡◌, ◌+◌, ◌∙◌, false, length, get_or, sym, ap, arith, rules}
use Rattle.std.specs.Ordering.{is_lt, ordering_then, nat_cmp}
use Rattle.std.specs.List.Sorted.{IsNonDecreasingBy}
use Rattle.std.proofs.lemmas.List.Sorted.{IsNonDecreasingBy-from_sort}
use Rattle.dom_base.specs.AddrOrder.{rank}
use Rattle.dom_base.specs.declared.addr.Addr.{Addr}
use Rattle.dom_base.specs.declared.link.Link.{Link}
use Rattle.te_links.specs.declared.rows.OutLink.{OutLink}
use Rattle.te_links.specs.declared.rows.Entry.{Entry}
use Rattle.te_links.specs.Rows.{Rows, IsTopology}
use Rattle.te_links.specs.Faults.{rows_of_parts}
use Rattle.te_links.proofs.Compared.{rising_from_sort}
use Rattle.te_links.proofs.Moved.{moved, strictly, links_rise, outs_rise, entries_rise, entries_compared}
use Rattle.te_links.proofs.Moved.{permuted_differ}
use Rattle.te_links.proofs.build.assemble.Goals as goal

pub of-requires-clause-rules : goal.of-requires-clause-rules
of-requires-clause-rules c =
    moved (rows_of_parts c.args.parts) c.sort.new.self.items c.sort_by_key.new.self.items c.sort_by_key-2.new.self.items c.sort-2.new.self.items c.requires.rules
    (rw c.into_vec-nodes.ensures at c.in_ok-sort.ensures.permutation) (rw c.into_vec-links.ensures at c.in_ok-sort_by_key.ensures.permutation)
    (rw c.into_vec-outs.ensures at c.in_ok-sort_by_key-2.ensures.permutation) (rw c.into_vec-entries.ensures at c.in_ok-sort-2.ensures.permutation)

pub of-requires-clause-order : goal.of-requires-clause-order
of-requires-clause-order c =
    let g : Rows = record { own = c.args.parts.own; nodes = c.sort.new.self.items; links = c.sort_by_key.new.self.items; outs = c.sort_by_key-2.new.self.items; entries = c.sort-2.new.self.items } in
    let rules_hold : IsTopology g = moved (rows_of_parts c.args.parts) g.nodes g.links g.outs g.entries c.requires.rules
    (rw c.into_vec-nodes.ensures at c.in_ok-sort.ensures.permutation) (rw c.into_vec-links.ensures at c.in_ok-sort_by_key.ensures.permutation)
    (rw c.into_vec-outs.ensures at c.in_ok-sort_by_key-2.ensures.permutation) (rw c.into_vec-entries.ensures at c.in_ok-sort-2.ensures.permutation) in
    let nodes_up = IsNonDecreasingBy-from_sort (λ (a : Addr). rank a) g.nodes c.in_ok-sort.ensures.sorted in
    let links_up : IsNonDecreasingBy (λ (l : Link). rank l.far) g.links = rising_from_sort (λ (l : Link). l.far) g.links c.in_ok-sort_by_key.ensures.sorted (λ a r q k. search rules) in
    let outs_up : IsNonDecreasingBy (λ (o : OutLink). rank o.link.far) g.outs = rising_from_sort (λ (o : OutLink). o.link.far) g.outs c.in_ok-sort_by_key-2.ensures.sorted (λ a r q k. search rules) in
    record {
      nodes = strictly (λ (a : Addr). a) g.nodes nodes_up rules_hold.nodes_differ;
      links = links_rise g rules_hold links_up;
      outs = outs_rise g rules_hold outs_up;
      entries = entries_rise g.entries
          (λ k d below.
          let a : Entry = get_or g.entries k d in
          let b : Entry = get_or g.entries (k + 1) d in
          let h : is_lt (ordering_then (nat_cmp b.from_as.0 a.from_as.0) (nat_cmp (rank b.node) (rank a.node))) ≡ false = c.in_ok-sort-2.ensures.sorted k d (omega arith) below in
          entries_compared a b h)
          rules_hold.entries_differ;
    }

pub of_links-requires-clause-nodes_rise : goal.of_links-requires-clause-nodes_rise
of_links-requires-clause-nodes_rise c =
    let nodes = c.sort.new.self.items in
    let moves = rw c.into_vec-nodes.ensures at c.in_ok-sort.ensures.permutation in
    let up = IsNonDecreasingBy-from_sort (λ (a : Addr). rank a) nodes c.in_ok-sort.ensures.sorted in
    rw c.deref.ensures.value (strictly (λ (a : Addr). a) nodes up (permuted_differ c.args.parts.nodes nodes moves c.requires.rules.nodes_differ))

pub of_links-requires-clause-from : goal.of_links-requires-clause-from
of_links-requires-clause-from c =
    let g : Rows = record { own = c.args.parts.own; nodes = c.sort.new.self.items; links = c.sort_by_key.new.self.items; outs = c.sort_by_key-2.new.self.items; entries = c.sort-2.new.self.items } in
    let rules_hold : IsTopology g = moved (rows_of_parts c.args.parts) g.nodes g.links g.outs g.entries c.requires.rules
    (rw c.into_vec-nodes.ensures at c.in_ok-sort.ensures.permutation) (rw c.into_vec-links.ensures at c.in_ok-sort_by_key.ensures.permutation)
    (rw c.into_vec-outs.ensures at c.in_ok-sort_by_key-2.ensures.permutation) (rw c.into_vec-entries.ensures at c.in_ok-sort-2.ensures.permutation) in
    rw (c.deref.ensures.value, c.deref-2.ensures.value) (λ k d below. (rules_hold.links k d below).link.from)

pub of_links-requires-clause-to : goal.of_links-requires-clause-to
of_links-requires-clause-to c =
    let g : Rows = record { own = c.args.parts.own; nodes = c.sort.new.self.items; links = c.sort_by_key.new.self.items; outs = c.sort_by_key-2.new.self.items; entries = c.sort-2.new.self.items } in
    let rules_hold : IsTopology g = moved (rows_of_parts c.args.parts) g.nodes g.links g.outs g.entries c.requires.rules
    (rw c.into_vec-nodes.ensures at c.in_ok-sort.ensures.permutation) (rw c.into_vec-links.ensures at c.in_ok-sort_by_key.ensures.permutation)
    (rw c.into_vec-outs.ensures at c.in_ok-sort_by_key-2.ensures.permutation) (rw c.into_vec-entries.ensures at c.in_ok-sort-2.ensures.permutation) in
    rw (c.deref.ensures.value, c.deref-2.ensures.value) (λ k d below. (rules_hold.links k d below).to)

pub of-requires-clause-index : goal.of-requires-clause-index
of-requires-clause-index c = let is = rw (c.deref.ensures.value, c.deref-2.ensures.value) at c.in_ok-index.ensures in is
