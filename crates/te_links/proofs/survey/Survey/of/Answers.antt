use Rattle.std.proofs.Common.{◌≡◌, ◌∙◌, ◌++◌, List, length, map, ap, subst, sym, rules}
use Rattle.std.proofs.lemmas.List.{length-map}
use Rattle.std.specs.Prelude.{IsPermutation}
use Rattle.std.proofs.lemmas.List.Sorted.{IsNonDecreasingBy-from_sort}
use Rattle.dom_base.specs.AddrOrder.{rank}
use Rattle.dom_base.specs.declared.addr.Addr.{Addr}
use Rattle.dom_base.specs.declared.names.As.{As}
use Rattle.te_links.specs.declared.rows.Entry.{Entry}
use Rattle.te_links.specs.Faults.{rows_of_parts}
use Rattle.te_links.specs.Survey.{TellsRepeats, IsFewUpTo}
use Rattle.te_links.proofs.Compared.{entry_told}
use Rattle.te_links.proofs.Surveyed.{tells, domains_told, keys_of_all, in_order}
use Rattle.te_links.proofs.survey.Survey.of.Goals as goal

pub returns : goal.returns
returns c =
    let g = rows_of_parts c.args.parts.now in
    let nodes : c.in_ok-nodes.nodes.items ≡ g.nodes = c.in_ok-nodes.ensures.items ∙ c.as_slice.ensures in
    let nears : c.deref-3.result.now ≡ map (λ l. l.near) g.links ++ map (λ o. o.link.near) g.outs = c.deref-3.ensures.value ∙ c.in_ok-nears.ensures in
    let fars : c.deref-4.result.now ≡ map (λ l. l.far) g.links ++ map (λ o. o.link.far) g.outs = c.deref-4.ensures.value ∙ c.in_ok-fars.ensures in
    let domains = c.deref-5.ensures.value ∙ c.in_ok-domains.ensures in
    record {
      nodes = subst (λ (xs : List Addr). IsPermutation xs c.sort.new.self.items) nodes c.in_ok-sort.ensures.permutation;
      rising = in_order (λ (a : Addr). rank a) c.sort.new.self.items (IsNonDecreasingBy-from_sort (λ (a : Addr). rank a) c.sort.new.self.items c.in_ok-sort.ensures.sorted);
      same_node = subst (λ (xs : List Addr). TellsRepeats xs c.in_ok-same_node.same_node.items) (c.deref.ensures.value ∙ nodes)
          c.in_ok-same_node.ensures;
      same_near = subst (λ (xs : List Addr). TellsRepeats xs c.in_ok-repeats_of.field-0.items) (nears ∙ sym (keys_of_all g (λ l. l.near)))
          c.in_ok-repeats_of.ensures;
      same_far = subst (λ (xs : List Addr). TellsRepeats xs c.in_ok-repeats_of-2.field-0.items) (fars ∙ sym (keys_of_all g (λ l. l.far)))
          c.in_ok-repeats_of-2.ensures;
      same_entry = subst (λ (xs : List Entry). TellsRepeats xs c.in_ok-counts_before.field-0.items) c.as_slice-2.ensures
          (tells _ c.as_slice-2.result.now c.in_ok-counts_before.field-0.items c.in_ok-counts_before.ensures entry_told);
      domains = c.in_ok-counts_before-2.ensures.each ∙ ap (length {A = As}) domains ∙ length-map g.entries (λ (e : Entry). e.from_as);
      same_domain = domains_told _ g.entries c.in_ok-counts_before-2.field-0.items (rw domains at c.in_ok-counts_before-2.ensures) (λ a b. search rules);
      tails = subst (λ (xs : List Addr). IsFewUpTo 16 xs c.in_ok-few_up_to.field-0) (c.deref-6.ensures.value ∙ c.in_ok-tails.ensures) c.in_ok-few_up_to.ensures;
      entry_nodes = subst (λ (xs : List Addr). IsFewUpTo 64 xs c.in_ok-few_up_to-2.field-0) (c.deref-7.ensures.value ∙ c.in_ok-entry_nodes.ensures) c.in_ok-few_up_to-2.ensures;
    }

pub counts_before-requires : goal.counts_before-requires
counts_before-requires c = entry_told
