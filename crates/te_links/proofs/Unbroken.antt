-- The rows of a topology break no rule.
use Rattle.std.proofs.Common.{◌≡◌, inl, inr, ℕ, ◌+◌, List, length, map, take, nat_eq, cond, Some, sym, subst, arith}
use Rattle.std.specs.Prelude.{All, AllPairs, Contains, slice_get}
use Rattle.std.proofs.lemmas.List.{take-map}
use Rattle.std.proofs.lemmas.List.Elements.{All-get_or, All-take, All-contains_itself}
use Rattle.std.proofs.lemmas.List.Sums.{sum_by-take-le}
use Rattle.std.proofs.lemmas.Option.{slice_get_within, get_or_from_slice_get}
use Rattle.dom_base.specs.declared.addr.Addr.{Addr}
use Rattle.dom_base.specs.declared.link.Link.{Link}
use Rattle.te_links.specs.declared.rows.OutLink.{OutLink}
use Rattle.te_links.specs.declared.rows.Entry.{Entry}
use Rattle.te_links.specs.declared.fault.TopoFault.{TopoFault}
use Rattle.te_links.specs.declared.fault.TopoFault.TheVariants.{TooMany, DuplicateNode, UnknownNode, OwnAs, BadMetric, DuplicateNear, DuplicateFar, DuplicateEntry, Syntax, NoHeader}
use Rattle.te_links.specs.declared.fault.RowKind.{RowKind}
use Rattle.te_links.specs.declared.fault.RowKind.TheVariants.{Node, Link as InnerLink, Out, Entry as EntryRow}
use Rattle.te_links.specs.Rows.{Rows, IsTopology, IsInnerLink, IsOutLink, IsEntry, all_links, FewDifferent, FewEntries}
use Rattle.te_links.specs.Faults.{Breaks, NodeBreaks, LinkBreaks, OutBreaks, EntryBreaks, links_before_out}
use Rattle.te_links.proofs.Different.{new_of_different, few_fewer}
use Rattle.te_links.proofs.RowRules.{link_key, out_key}
use Rattle.te_links.proofs.Moved.{keys_differ}

-- what holds of all rows holds of the row at a place
of_row : {X : Type 0} (P : X → Type 0) (xs : List X) (i : ℕ) (x : X) → slice_get xs i ≡ Some x → All P xs → P x
of_row P xs i x at all = subst P (get_or_from_slice_get xs i x x at) (All-get_or P xs i x (slice_get_within xs i x at) all)

few_front : {X : Type 0} (most : ℕ) (f : X → Addr) (xs : List X) (n : ℕ) → FewDifferent most (map f xs) → FewDifferent most (map f (take n xs))
few_front most f xs n few =
    subst (FewDifferent most) (take-map f n xs)
    (few_fewer most (take n (map f xs)) (map f xs) (All-take (Contains (map f xs)) n (map f xs) (All-contains_itself (map f xs))) few)

entries_front : (xs : List Entry) (n : ℕ) → FewEntries xs → FewEntries (take n xs)
entries_front xs n few other = omega (arith, few other, sum_by-take-le (λ e. cond (nat_eq e.from_as.0 other.0) 1 0) xs n)

inner_new : (g : Rows) (key : Link → Addr) (i : ℕ) (l : Link) → slice_get g.links i ≡ Some l → AllPairs (λ a b. ¬ (key a ≡ key b)) (all_links g) → ¬ Contains (map key (take i g.links)) (key l)
inner_new g key i l at differ has =
    let k = link_key g key i l at in
    new_of_different (map key (all_links g)) (keys_differ key (all_links g) differ) i (key l) k.0 (subst (λ xs. Contains xs (key l)) (sym k.1) has)

outer_new : (g : Rows) (key : Link → Addr) (i : ℕ) (o : OutLink) → slice_get g.outs i ≡ Some o → AllPairs (λ a b. ¬ (key a ≡ key b)) (all_links g) →
    ¬ Contains (map key (links_before_out g i)) (key o.link)
outer_new g key i o at differ has =
    let k = out_key g key i o at in
    new_of_different (map key (all_links g)) (keys_differ key (all_links g) differ) (length g.links + i) (key o.link) k.0 (subst (λ xs. Contains xs (key o.link)) (sym k.1) has)

node_holds : (g : Rows) → IsTopology g → (i : ℕ) (n : Addr) → slice_get g.nodes i ≡ Some n → (f : TopoFault) → ¬ NodeBreaks g i n f
node_holds g is i n at TooMany b = omega (arith, is.few_nodes, slice_get_within g.nodes i n at, b)
node_holds g is i n at DuplicateNode b = new_of_different g.nodes is.nodes_differ i n at b
node_holds g is i n at UnknownNode b = b
node_holds g is i n at OwnAs b = b
node_holds g is i n at BadMetric b = b
node_holds g is i n at DuplicateNear b = b
node_holds g is i n at DuplicateFar b = b
node_holds g is i n at DuplicateEntry b = b
node_holds g is i n at Syntax b = b
node_holds g is i n at NoHeader b = b

link_holds : (g : Rows) → IsTopology g → (i : ℕ) (l : Link) → slice_get g.links i ≡ Some l → IsInnerLink g.nodes l → (f : TopoFault) → ¬ LinkBreaks g i l f
link_holds g is i l at inner TooMany b =
    elim b [ inl many ↦ omega (arith, is.few_links, slice_get_within g.links i l at, many) | inr many ↦ omega (arith, inner.link.few_srlgs, many) ]
link_holds g is i l at inner DuplicateNode b = b
link_holds g is i l at inner UnknownNode b = elim b [ inl from ↦ from inner.link.from | inr to ↦ to inner.to ]
link_holds g is i l at inner OwnAs b = b
link_holds g is i l at inner BadMetric b = elim b [ inl igp ↦ igp inner.link.igp | inr te ↦ te inner.link.te ]
link_holds g is i l at inner DuplicateNear b = inner_new g (λ m. m.near) i l at is.nears_differ b
link_holds g is i l at inner DuplicateFar b = inner_new g (λ m. m.far) i l at is.fars_differ b
link_holds g is i l at inner DuplicateEntry b = b
link_holds g is i l at inner Syntax b = b
link_holds g is i l at inner NoHeader b = b

out_holds : (g : Rows) → IsTopology g → (i : ℕ) (o : OutLink) → slice_get g.outs i ≡ Some o → IsOutLink g.own g.nodes o → (f : TopoFault) → ¬ OutBreaks g i o f
out_holds g is i o at out TooMany b =
    elim b [
      | inl many ↦ omega (arith, is.few_outs, slice_get_within g.outs i o at, many)
      | inr other ↦ elim other [
        | inl many ↦ omega (arith, out.link.few_srlgs, many)
        | inr many ↦ many (few_front 16 (λ (p : OutLink). p.link.from) g.outs (i + 1) is.few_tails)
      ]
    ]
out_holds g is i o at out DuplicateNode b = b
out_holds g is i o at out UnknownNode b = b out.link.from
out_holds g is i o at out OwnAs b = b out.foreign
out_holds g is i o at out BadMetric b = elim b [ inl igp ↦ igp out.link.igp | inr te ↦ te out.link.te ]
out_holds g is i o at out DuplicateNear b = outer_new g (λ m. m.near) i o at is.nears_differ b
out_holds g is i o at out DuplicateFar b = outer_new g (λ m. m.far) i o at is.fars_differ b
out_holds g is i o at out DuplicateEntry b = b
out_holds g is i o at out Syntax b = b
out_holds g is i o at out NoHeader b = b

entry_holds : (g : Rows) → IsTopology g → (i : ℕ) (e : Entry) → slice_get g.entries i ≡ Some e → IsEntry g.own g.nodes e → (f : TopoFault) → ¬ EntryBreaks g i e f
entry_holds g is i e at entry TooMany b =
    elim b [
      | inl many ↦ many (entries_front g.entries (i + 1) is.few_entries)
      | inr many ↦ many (few_front 64 (λ (f : Entry). f.node) g.entries (i + 1) is.few_entry_nodes)
    ]
entry_holds g is i e at entry DuplicateNode b = b
entry_holds g is i e at entry UnknownNode b = b entry.node
entry_holds g is i e at entry OwnAs b = b entry.foreign
entry_holds g is i e at entry BadMetric b = b
entry_holds g is i e at entry DuplicateNear b = b
entry_holds g is i e at entry DuplicateFar b = b
entry_holds g is i e at entry DuplicateEntry b = new_of_different g.entries is.entries_differ i e at b
entry_holds g is i e at entry Syntax b = b
entry_holds g is i e at entry NoHeader b = b

pub unbroken : (g : Rows) → IsTopology g → (kind : RowKind) (i : ℕ) (fault : TopoFault) → ¬ Breaks g kind i fault
unbroken g is Node i fault b = node_holds g is i b.0 b.1 fault b.2
unbroken g is InnerLink i fault b = link_holds g is i b.0 b.1 (of_row (IsInnerLink g.nodes) g.links i b.0 b.1 is.links) fault b.2
unbroken g is Out i fault b = out_holds g is i b.0 b.1 (of_row (IsOutLink g.own g.nodes) g.outs i b.0 b.1 is.outs) fault b.2
unbroken g is EntryRow i fault b = entry_holds g is i b.0 b.1 (of_row (IsEntry g.own g.nodes) g.entries i b.0 b.1 is.entries) fault b.2
