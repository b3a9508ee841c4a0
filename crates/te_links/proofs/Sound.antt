-- Rows that break no rule are a topology.
use Rattle.std.proofs.Common.{◌≡◌, ◌≢◌, ◌⊎◌, inl, inr, ℕ, zero, suc, ◌+◌, ◌-◌, ◌≤◌, List, [], ◌∷◌, ◌++◌, length, map, take, get_or, Some, None, refl, sym, ◌∙◌, ap, subst, arith}
use Rattle.std.specs.Prelude.{All, AllPairs, Contains, count_by, slice_get, ◌==◌, option_map}
use Rattle.std.proofs.lemmas.Bool.{cases_lt}
use Rattle.std.proofs.lemmas.List.{get_or-map, length-map, length-append, take-map, take-append-le, get_or_append_left, get_or-append_right}
use Rattle.std.proofs.lemmas.Option.{slice_get_cases, slice_get-get_or, slice_get-map, slice_get_within, get_or_from_slice_get, same_Some}
use Rattle.dom_base.specs.declared.addr.Addr.{Addr}
use Rattle.dom_base.specs.declared.names.As.{As}
use Rattle.dom_base.specs.declared.link.Link.{Link}
use Rattle.te_links.specs.declared.rows.OutLink.{OutLink}
use Rattle.te_links.specs.declared.rows.Entry.{Entry}
use Rattle.te_links.specs.declared.fault.TopoFault.TheVariants.{TooMany, DuplicateNode, UnknownNode, OwnAs, BadMetric, DuplicateNear, DuplicateFar, DuplicateEntry}
use Rattle.te_links.specs.declared.fault.RowKind.TheVariants.{Node, Link as InnerLink, Out, Entry as EntryRow}
use Rattle.te_links.specs.Rows.{Rows, IsTopology, IsInnerLink, IsOutLink, IsEntry, IsMetric, IsForeign, all_links, FewTails, FewEntries, FewEntryNodes}
use Rattle.te_links.specs.Faults.{links_before_out}
use Rattle.te_links.specs.Checks.{NoneOf}
use Rattle.te_links.proofs.Nothing.{few_of_none}
use Rattle.te_links.proofs.Different.{stands_after_all, pairs_differ, few_stable, of_all}

pub metric_stable : (n : ℕ) → ¬ (¬ IsMetric n) → IsMetric n
metric_stable n not_not =
    elim (cases_lt 0 n) [
      | inl some ↦ elim (cases_lt 16777215 n) [
        | inl great ↦ absurd (not_not (λ is. omega (arith, is.1)))
        | inr fits ↦ (omega arith, fits)
      ]
      | inr none ↦ absurd (not_not (λ is. omega (arith, is.0)))
    ]

pub foreign_stable : (own other : As) → ¬ (¬ IsForeign own other) → IsForeign own other
foreign_stable own other not_not = (
  λ is. not_not (λ foreign. foreign.0 is),
  elim (cases_lt 0 other.0) [
    | inl some ↦ omega arith
    | inr none ↦ absurd (not_not (λ foreign. omega (arith, foreign.1)))
  ],
)

pub entries_stable : (entries : List Entry) → ¬ (¬ FewEntries entries) → FewEntries entries
entries_stable entries not_not other =
    elim (cases_lt 16 (count_by (λ e. e.from_as.0 == other.0) entries)) [
      | inl many ↦ absurd (not_not (λ few. omega (arith, few other)))
      | inr few ↦ few
    ]

-- the parts of two lists put together
pub at_left : {X : Type 0} (xs ys : List X) (k : ℕ) (x : X) → slice_get xs k ≡ Some x → slice_get (xs ++ ys) k ≡ Some x
at_left xs ys k x at_k =
    let inside = slice_get_within xs k x at_k in
    slice_get-get_or (xs ++ ys) k x (omega (arith, inside, length-append xs ys)) ∙ ap Some (get_or_append_left xs ys x k inside ∙ get_or_from_slice_get xs k x x at_k)

pub at_right : {X : Type 0} (xs ys : List X) (k : ℕ) (x : X) → slice_get ys k ≡ Some x → slice_get (xs ++ ys) (length xs + k) ≡ Some x
at_right xs ys k x at_k =
    let inside = slice_get_within ys k x at_k in
    let left : (length xs + k) - length xs ≡ k = omega arith in
    slice_get-get_or (xs ++ ys) (length xs + k) x (omega (arith, inside, length-append xs ys))
    ∙ ap Some (get_or-append_right xs ys (length xs) (length xs + k) x refl (omega arith) ∙ ap (λ n. get_or ys n x) left ∙ get_or_from_slice_get ys k x x at_k)

pub from_either : {X : Type 0} (xs ys : List X) (k : ℕ) (x : X) → slice_get (xs ++ ys) k ≡ Some x → (slice_get xs k ≡ Some x) ⊎ ((n : ℕ) × (k ≡ length xs + n) × (slice_get ys n ≡ Some x))
from_either xs ys k x at_k =
    let inside = slice_get_within (xs ++ ys) k x at_k in
    let is : get_or (xs ++ ys) k x ≡ x = get_or_from_slice_get (xs ++ ys) k x x at_k in
    elim (cases_lt k (length xs)) [
      | inl lt ↦ inl (slice_get-get_or xs k x lt ∙ ap Some (sym (get_or_append_left xs ys x k lt) ∙ is))
      | inr ge ↦
          inr (
            k - length xs,
            omega arith,
            slice_get-get_or ys (k - length xs) x (omega (arith, inside, length-append xs ys)) ∙ ap Some (sym (get_or-append_right xs ys (length xs) k x refl ge) ∙ is),
          )
    ]

pub take_left : {X : Type 0} (xs ys : List X) (k : ℕ) → k ≤ length xs → take k (xs ++ ys) ≡ take k xs
take_left xs ys k le = take-append-le k xs ys le

pub take_right : {X : Type 0} (xs ys : List X) (k : ℕ) → take (length xs + k) (xs ++ ys) ≡ xs ++ take k ys
take_right [] ys k = ap (λ n. take n ys) (let e : 0 + k ≡ k = omega arith in e)
take_right (x ∷ xs) ys k =
    let e : suc (length xs) + k ≡ suc (length xs + k) = omega arith in
    ap (λ n. take n (x ∷ (xs ++ ys))) e ∙ ap (λ l. x ∷ l) (take_right xs ys k)

-- where a key of a mapped list comes from
pub from_map : {X Y : Type 0} (f : X → Y) (xs : List X) (k : ℕ) (y : Y) → slice_get (map f xs) k ≡ Some y → (x : X) × (slice_get xs k ≡ Some x) × (f x ≡ y)
from_map f [] k y at_k = absurd (let e : None ≡ Some y = at_k in cc)
from_map f (x ∷ xs) zero y at_k = (x, refl, same_Some (f x) y at_k)
from_map f (x ∷ xs) (suc k) y at_k = from_map f xs k y at_k

pub to_map : {X Y : Type 0} (f : X → Y) (xs : List X) (k : ℕ) (x : X) → slice_get xs k ≡ Some x → slice_get (map f xs) k ≡ Some (f x)
to_map f xs k x at_k = slice_get-map f xs k ∙ ap (option_map f) at_k

-- a key of all links that stands before its place repeats at an inner link or at an out link
no_repeats : (g : Rows) (key : Link → Addr) →
    ((i : ℕ) (l : Link) → slice_get g.links i ≡ Some l → ¬ Contains (map key (take i g.links)) (key l)) →
    ((i : ℕ) (o : OutLink) → slice_get g.outs i ≡ Some o → ¬ Contains (map key (links_before_out g i)) (key o.link)) →
    (k : ℕ) (x : Addr) → slice_get (map key (all_links g)) k ≡ Some x → ¬ Contains (take k (map key (all_links g))) x
no_repeats g key inner outer k x at_k has =
    let from = from_map key (all_links g) k x at_k in
    let front : Contains (map key (take k (all_links g))) (key from.0) =
    subst (λ y. Contains (map key (take k (all_links g))) y) (sym from.2) (subst (λ l. Contains l x) (take-map key k (all_links g)) has) in
    elim (from_either g.links (map (λ o. o.link) g.outs) k from.0 from.1) [
      | inl left ↦
          inner k from.0 left
          (subst (λ l. Contains (map key l) (key from.0))
          (take_left g.links (map (λ o. o.link) g.outs) k (let w = slice_get_within g.links k from.0 left in omega (arith, w))) front)
      | inr right ↦
          let out = from_map (λ (o : OutLink). o.link) g.outs right.0 from.0 right.2 in
          let before : take k (all_links g) ≡ links_before_out g right.0 =
          ap (λ n. take n (all_links g)) right.1 ∙ take_right g.links (map (λ o. o.link) g.outs) right.0
          ∙ ap (λ l. g.links ++ l) (take-map (λ (o : OutLink). o.link) right.0 g.outs) in
          outer right.0 out.0 out.1
          (subst (λ l. Contains (map key (links_before_out g right.0)) (key l)) (sym out.2)
          (subst (λ l. Contains (map key l) (key from.0)) before front))
    ]

-- keys that differ are of rows that differ in them
pub by_key : {X : Type 0} (key : X → Addr) (xs : List X) → AllPairs (λ a b. a ≢ b) (map key xs) → AllPairs (λ x y. key x ≢ key y) xs
by_key key xs differ i j d before below is =
    let long : length (map key xs) ≡ length xs = length-map xs key in
    differ i j (key d) before (omega arith) (get_or-map key xs i d (key d) (omega arith) ∙ is ∙ sym (get_or-map key xs j d (key d) below))

few_rows : {X : Type 0} (xs : List X) (most : ℕ) → ((x : X) → slice_get xs most ≡ Some x → ⊥) → length xs ≤ most
few_rows xs most none =
    elim (slice_get_cases xs most).1 [ inl has ↦ absurd (none has.0 has.2) | inr past ↦ past.0 ]

inner_ok : (g : Rows) → NoneOf g InnerLink → All (IsInnerLink g.nodes) g.links
inner_ok g links k d below =
    let l : Link = get_or g.links k d in
    let at : slice_get g.links k ≡ Some l = slice_get-get_or g.links k d below in
    record {
      link = record {
        few_srlgs = elim (cases_lt 8 (length l.srlgs)) [ inl many ↦ absurd (links.none k TooMany (l, at, inr many)) | inr few ↦ few ];
        from = stands_after_all g.nodes l.from (λ lacks. links.none k UnknownNode (l, at, inl lacks));
        igp = metric_stable l.igp (λ bad. links.none k BadMetric (l, at, inl bad));
        te = metric_stable l.te (λ bad. links.none k BadMetric (l, at, inr bad));
      };
      to = stands_after_all g.nodes l.to (λ lacks. links.none k UnknownNode (l, at, inr lacks));
    }

outer_ok : (g : Rows) → NoneOf g Out → All (IsOutLink g.own g.nodes) g.outs
outer_ok g outs k d below =
    let o : OutLink = get_or g.outs k d in
    let at : slice_get g.outs k ≡ Some o = slice_get-get_or g.outs k d below in
    record {
      link = record {
        few_srlgs = elim (cases_lt 8 (length o.link.srlgs)) [ inl many ↦ absurd (outs.none k TooMany (o, at, inr (inl many))) | inr few ↦ few ];
        from = stands_after_all g.nodes o.link.from (λ lacks. outs.none k UnknownNode (o, at, lacks));
        igp = metric_stable o.link.igp (λ bad. outs.none k BadMetric (o, at, inl bad));
        te = metric_stable o.link.te (λ bad. outs.none k BadMetric (o, at, inr bad));
      };
      foreign = foreign_stable g.own o.to_as (λ own. outs.none k OwnAs (o, at, own));
    }

entries_ok : (g : Rows) → NoneOf g EntryRow → All (IsEntry g.own g.nodes) g.entries
entries_ok g entries k d below =
    let e : Entry = get_or g.entries k d in
    let at : slice_get g.entries k ≡ Some e = slice_get-get_or g.entries k d below in
    record {
      node = stands_after_all g.nodes e.node (λ lacks. entries.none k UnknownNode (e, at, lacks));
      foreign = foreign_stable g.own e.from_as (λ own. entries.none k OwnAs (e, at, own));
    }

pub sound : (g : Rows) → NoneOf g Node → NoneOf g InnerLink → NoneOf g Out → NoneOf g EntryRow → IsTopology g
sound g nodes links outs entries =
    let nears = no_repeats g (λ l. l.near) (λ i l at has. links.none i DuplicateNear (l, at, has)) (λ i o at has. outs.none i DuplicateNear (o, at, has)) in
    let fars = no_repeats g (λ l. l.far) (λ i l at has. links.none i DuplicateFar (l, at, has)) (λ i o at has. outs.none i DuplicateFar (o, at, has)) in
    record {
      few_nodes = few_rows g.nodes 1024 (λ n at. nodes.none 1024 TooMany (n, at, omega arith));
      nodes_differ = pairs_differ g.nodes (λ k n at has. nodes.none k DuplicateNode (n, at, has));
      few_links = few_rows g.links 8192 (λ l at. links.none 8192 TooMany (l, at, inl (omega arith)));
      links = inner_ok g links;
      few_outs = few_rows g.outs 256 (λ o at. outs.none 256 TooMany (o, at, inl (omega arith)));
      few_tails = of_all FewTails g.outs (few_of_none 16)
          (λ i o at. few_stable 16 (map (λ p. p.link.from) (take (i + 1) g.outs)) (λ many. outs.none i TooMany (o, at, inr (inr many))));
      outs = outer_ok g outs;
      nears_differ = by_key (λ l. l.near) (all_links g) (pairs_differ (map (λ l. l.near) (all_links g)) nears);
      fars_differ = by_key (λ l. l.far) (all_links g) (pairs_differ (map (λ l. l.far) (all_links g)) fars);
      few_entries = of_all FewEntries g.entries (λ other. omega arith)
          (λ i e at. entries_stable (take (i + 1) g.entries) (λ many. entries.none i TooMany (e, at, inl many)));
      few_entry_nodes = of_all FewEntryNodes g.entries (few_of_none 64)
          (λ i e at. few_stable 64 (map (λ f. f.node) (take (i + 1) g.entries)) (λ many. entries.none i TooMany (e, at, inr many)));
      entries = entries_ok g entries;
      entries_differ = pairs_differ g.entries (λ k e at has. entries.none k DuplicateEntry (e, at, has));
    }
