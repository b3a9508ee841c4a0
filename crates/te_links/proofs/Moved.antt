-- The rows of a topology in another order.
use Rattle.std.proofs.Common.{◌≡◌, ◌≢◌, ◌⊎◌, inl, inr, ℕ, zero, suc, ◌+◌, ◌<◌, ◌≤◌, Bool, true, false, ◌&&◌, List, ◌++◌, length, map, get_or, nat_eq, nat_lt, cond, refl, sym, ◌∙◌, ap, subst, arith}
use Rattle.std.specs.Prelude.{AllPairs, Contains, IsPermutation}
use Rattle.std.specs.Bool.{Decides}
use Rattle.std.specs.List.Sorted.{IsNonDecreasingBy}
use Rattle.std.specs.Ordering.{is_lt, ordering_then, nat_cmp}
use Rattle.std.proofs.lemmas.Bool.{cases_lt, lt-ltb, le-ltb}
use Rattle.std.proofs.lemmas.Bool.Decides.{Decides-eqb}
use Rattle.std.proofs.lemmas.Cmp.{nat_eq_equiv}
use Rattle.std.proofs.lemmas.List.{get_or-map, length-map, length-append, get_or_append_left, get_or-append-add}
use Rattle.std.proofs.lemmas.List.Elements.{All-weaker, All-contains_itself}
use Rattle.std.proofs.lemmas.List.Sorted.{IsPermutation-sym, IsPermutation-map, IsPermutation-append, Contains-permutation, All-permutation, length_permutation, sum_by-IsPermutation}
use Rattle.std.proofs.lemmas.Map.Keys.{IsDistinct-IsPermutation}
use Rattle.std.proofs.lemmas.Map.Made.{AllPairs-from_IsDistinct, IsDistinct-from_AllPairs}
use Rattle.std.proofs.lemmas.Option.{slice_get_cases}
use Rattle.dom_base.specs.AddrOrder.{rank}
use Rattle.dom_base.proofs.Ranks.{same_addr, Decides-rank}
use Rattle.dom_base.specs.declared.addr.Addr.{Addr}
use Rattle.dom_base.specs.declared.link.Link.{Link}
use Rattle.te_links.specs.declared.rows.OutLink.{OutLink}
use Rattle.te_links.specs.declared.rows.Entry.{Entry}
use Rattle.te_links.specs.Rows.{Rows, IsTopology, IsInnerLink, IsLink, IsOutLink, IsEntry, all_links, FewDifferent, IsEntryBefore}
use Rattle.te_links.proofs.Different.{few_fewer}
use Rattle.te_links.proofs.Sound.{by_key}

pub permuted_differ : (xs ys : List Addr) → IsPermutation xs ys → AllPairs (λ a b. a ≢ b) xs → AllPairs (λ a b. a ≢ b) ys
permuted_differ xs ys moved differ =
    AllPairs-from_IsDistinct {eq = λ a b. nat_eq (rank a) (rank b)} Decides-rank ys
    (IsDistinct-IsPermutation (λ a b. nat_eq (rank a) (rank b)) (λ a b. nat_eq_equiv.symm (rank a) (rank b)) xs ys moved
    (IsDistinct-from_AllPairs {eq = λ a b. nat_eq (rank a) (rank b)} Decides-rank xs differ))

abbrev pub entry_eq : Entry → Entry → Bool
entry_eq a b = nat_eq a.from_as.0 b.from_as.0 && nat_eq (rank a.node) (rank b.node)

both_true : (x y : Bool) → x && y ≡ true → (x ≡ true) × (y ≡ true)
both_true true true is = (refl, refl)
both_true true false is = (refl, is)
both_true false y is = absurd (let e : false ≡ true = is in cc)

pub same_entry : (a b : Entry) → Decides (entry_eq a b) (a ≡ b)
same_entry a b =
    let domain = Decides-eqb a.from_as.0 b.from_as.0 in
    let node = Decides-eqb (rank a.node) (rank b.node) in
    let one : a.from_as.0 ≡ b.from_as.0 → rank a.node ≡ rank b.node → a ≡ b =
    λ d n.
    let first : a ≡ record { from_as = b.from_as; node = a.node } = ap (λ k. let e : Entry = record { from_as = record { 0 = k }; node = a.node } in e) d in
    first ∙ ap (λ k. let e : Entry = record { from_as = b.from_as; node = k } in e) (same_addr a.node b.node n) in (
      λ is. let parts = both_true (nat_eq a.from_as.0 b.from_as.0) (nat_eq (rank a.node) (rank b.node)) is in one (domain.0 parts.0) (node.0 parts.1),
      λ is.
          let d = domain.1 (ap (λ (e : Entry). e.from_as.0) is) in
          let n = node.1 (ap (λ (e : Entry). rank e.node) is) in
          rw d n,
    )

entries_permuted : (xs ys : List Entry) → IsPermutation xs ys → AllPairs (λ a b. a ≢ b) xs → AllPairs (λ a b. a ≢ b) ys
entries_permuted xs ys moved differ =
    AllPairs-from_IsDistinct {eq = entry_eq} same_entry ys
    (IsDistinct-IsPermutation entry_eq
    (λ a b. ap (λ t. t && nat_eq (rank a.node) (rank b.node)) (nat_eq_equiv.symm a.from_as.0 b.from_as.0) ∙ ap (λ t. nat_eq b.from_as.0 a.from_as.0 && t) (nat_eq_equiv.symm (rank a.node) (rank b.node)))
    xs ys moved (IsDistinct-from_AllPairs {eq = entry_eq} same_entry xs differ))

pub keys_differ : {X : Type 0} (key : X → Addr) (xs : List X) → AllPairs (λ x y. key x ≢ key y) xs → AllPairs (λ a b. a ≢ b) (map key xs)
keys_differ key xs differ i j d before below is =
    let long : length (map key xs) ≡ length xs = length-map xs key in
    elim (slice_get_cases xs i).1 [
      | inl has ↦ differ i j has.0 before (omega arith) (sym (get_or-map key xs i has.0 d (omega arith)) ∙ is ∙ get_or-map key xs j has.0 d (omega arith))
      | inr past ↦ absurd (omega (arith, past.0))
    ]

permuted_keys : {X : Type 0} (key : X → Addr) (xs ys : List X) → IsPermutation xs ys → AllPairs (λ x y. key x ≢ key y) xs → AllPairs (λ x y. key x ≢ key y) ys
permuted_keys key xs ys moved differ = by_key key ys (permuted_differ (map key xs) (map key ys) (IsPermutation-map key xs ys moved) (keys_differ key xs differ))

few_moved : (most : ℕ) (xs ys : List Addr) → IsPermutation xs ys → FewDifferent most xs → FewDifferent most ys
few_moved most xs ys moved few =
    few_fewer most ys xs (All-weaker (Contains ys) (Contains xs) (λ a has. Contains-permutation ys xs a (IsPermutation-sym xs ys moved) has) ys (All-contains_itself ys)) few

link_moved : (xs ys : List Addr) (l : Link) → IsPermutation xs ys → IsLink xs l → IsLink ys l
link_moved xs ys l moved is = record { few_srlgs = is.few_srlgs; from = Contains-permutation xs ys l.from moved is.from; igp = is.igp; te = is.te }

pub moved : (g : Rows) (nodes : List Addr) (links : List Link) (outs : List OutLink) (entries : List Entry) → IsTopology g →
    IsPermutation g.nodes nodes → IsPermutation g.links links → IsPermutation g.outs outs → IsPermutation g.entries entries →
    IsTopology (record { own = g.own; nodes = nodes; links = links; outs = outs; entries = entries })
moved g nodes links outs entries is by_nodes by_links by_outs by_entries =
    let link : OutLink → Link = λ o. o.link in
    let tail : OutLink → Addr = λ o. o.link.from in
    let stand : Entry → Addr = λ e. e.node in
    let all = links ++ map link outs in
    let by_all = IsPermutation-append g.links links (map link g.outs) (map link outs) by_links (IsPermutation-map link g.outs outs by_outs) in
    record {
      few_nodes = omega (arith, is.few_nodes, length_permutation g.nodes nodes by_nodes);
      nodes_differ = permuted_differ g.nodes nodes by_nodes is.nodes_differ;
      few_links = omega (arith, is.few_links, length_permutation g.links links by_links);
      links = All-permutation (IsInnerLink nodes) g.links links by_links
          (All-weaker (IsInnerLink g.nodes) (IsInnerLink nodes)
          (λ l inner. record { link = link_moved g.nodes nodes l by_nodes inner.link; to = Contains-permutation g.nodes nodes l.to by_nodes inner.to }) g.links is.links);
      few_outs = omega (arith, is.few_outs, length_permutation g.outs outs by_outs);
      few_tails = few_moved 16 (map tail g.outs) (map tail outs) (IsPermutation-map tail g.outs outs by_outs) is.few_tails;
      outs = All-permutation (IsOutLink g.own nodes) g.outs outs by_outs
          (All-weaker (IsOutLink g.own g.nodes) (IsOutLink g.own nodes) (λ o out. record { link = link_moved g.nodes nodes o.link by_nodes out.link; foreign = out.foreign }) g.outs is.outs);
      nears_differ = permuted_keys (λ l. l.near) (all_links g) all by_all is.nears_differ;
      fars_differ = permuted_keys (λ l. l.far) (all_links g) all by_all is.fars_differ;
      few_entries = λ other. omega (arith, is.few_entries other, sum_by-IsPermutation (λ e. let n : ℕ = cond (nat_eq e.from_as.0 other.0) 1 0 in n) g.entries entries by_entries);
      few_entry_nodes = few_moved 64 (map stand g.entries) (map stand entries) (IsPermutation-map stand g.entries entries by_entries) is.few_entry_nodes;
      entries = All-permutation (IsEntry g.own nodes) g.entries entries by_entries
          (All-weaker (IsEntry g.own g.nodes) (IsEntry g.own nodes) (λ e entry. record { node = Contains-permutation g.nodes nodes e.node by_nodes entry.node; foreign = entry.foreign }) g.entries is.entries);
      entries_differ = entries_permuted g.entries entries by_entries is.entries_differ;
    }

-- rows in order whose keys differ rise
pub strictly : {X : Type 0} (key : X → Addr) (xs : List X) → IsNonDecreasingBy (λ x. rank (key x)) xs → AllPairs (λ x y. key x ≢ key y) xs → AllPairs (λ x y. rank (key x) < rank (key y)) xs
strictly key xs up differ i j d before below =
    let x = get_or xs i d in
    let y = get_or xs j d in
    let other : rank (key x) ≡ rank (key y) → ⊥ = λ same. differ i j d before below (same_addr (key x) (key y) same) in
    omega (arith, up i j d (omega arith) below, other)

front_pairs : {X : Type 0} (R : X → X → Type 0) (xs ys : List X) → AllPairs R (xs ++ ys) → AllPairs R xs
front_pairs R xs ys pairs i j d before below =
    subst (λ x. R x (get_or xs j d)) (get_or_append_left xs ys d i (omega arith))
    (subst (λ y. R (get_or (xs ++ ys) i d) y) (get_or_append_left xs ys d j below) (pairs i j d before (omega (arith, below, length-append xs ys))))

back_pairs : {X : Type 0} (R : X → X → Type 0) (xs ys : List X) → AllPairs R (xs ++ ys) → AllPairs R ys
back_pairs R xs ys pairs i j d before below =
    subst (λ x. R x (get_or ys j d)) (get_or-append-add xs ys i d)
    (subst (λ y. R (get_or (xs ++ ys) (length xs + i) d) y) (get_or-append-add xs ys j d)
    (pairs (length xs + i) (length xs + j) d (omega arith) (omega (arith, below, length-append xs ys))))

pub links_rise : (g : Rows) → IsTopology g → IsNonDecreasingBy (λ l. rank l.far) g.links → AllPairs (λ l m. rank l.far < rank m.far) g.links
links_rise g is up = strictly (λ l. l.far) g.links up (front_pairs (λ l m. l.far ≢ m.far) g.links (map (λ o. o.link) g.outs) is.fars_differ)

pub outs_rise : (g : Rows) → IsTopology g → IsNonDecreasingBy (λ o. rank o.link.far) g.outs → AllPairs (λ o p. rank o.link.far < rank p.link.far) g.outs
outs_rise g is up =
    let link : OutLink → Link = λ o. o.link in
    let differ = back_pairs (λ l m. l.far ≢ m.far) g.links (map link g.outs) is.fars_differ in
    let long : length (map link g.outs) ≡ length g.outs = length-map g.outs link in
    strictly (λ o. o.link.far) g.outs up
    (λ i j d before below same.
    differ i j d.link before (omega arith)
    (ap (λ (l : Link). l.far) (get_or-map link g.outs i d d.link (omega arith)) ∙ same ∙ sym (ap (λ (l : Link). l.far) (get_or-map link g.outs j d d.link below))))

-- entries in order
abbrev pub IsEntryUpTo : Entry → Entry → Type 0
IsEntryUpTo d e = (d.from_as.0 < e.from_as.0) ⊎ ((d.from_as.0 ≡ e.from_as.0) × (rank d.node ≤ rank e.node))

up_to_trans : (a b c : Entry) → IsEntryUpTo a b → IsEntryUpTo b c → IsEntryUpTo a c
up_to_trans a b c ab bc =
    elim ab [
      | inl less ↦ elim bc [ inl more ↦ inl (omega arith) | inr same ↦ inl (omega (arith, same.0)) ]
      | inr same ↦ elim bc [ inl more ↦ inl (omega (arith, same.0)) | inr also ↦ inr (same.0 ∙ also.0, omega (arith, same.1, also.1)) ]
    ]

climbs : (xs : List Entry) → ((k : ℕ) (d : Entry) → k + 1 < length xs → IsEntryUpTo (get_or xs k d) (get_or xs (k + 1) d)) →
    (i j : ℕ) (d : Entry) → i < j → j < length xs → IsEntryUpTo (get_or xs i d) (get_or xs j d)
climbs xs next i zero d before below = absurd (omega arith)
climbs xs next i (suc j) d before below =
    let one_more : j + 1 ≡ suc j = omega arith in
    let last : IsEntryUpTo (get_or xs j d) (get_or xs (suc j) d) = subst (λ m. IsEntryUpTo (get_or xs j d) (get_or xs m d)) one_more (next j d (omega arith)) in
    elim (cases_lt i j) [
      | inl lt ↦ up_to_trans (get_or xs i d) (get_or xs j d) (get_or xs (suc j) d) (climbs xs next i j d lt (omega arith)) last
      | inr ge ↦ let same : i ≡ j = omega arith in subst (λ m. IsEntryUpTo (get_or xs m d) (get_or xs (suc j) d)) (sym same) last
    ]

pub entries_rise : (xs : List Entry) → ((k : ℕ) (d : Entry) → k + 1 < length xs → IsEntryUpTo (get_or xs k d) (get_or xs (k + 1) d)) → AllPairs (λ d e. d ≢ e) xs → AllPairs IsEntryBefore xs
entries_rise xs next differ i j d before below =
    let a : Entry = get_or xs i d in
    let b : Entry = get_or xs j d in
    elim (climbs xs next i j d before below) [
      | inl less ↦ inl less
      | inr same ↦
          let other : rank a.node ≡ rank b.node → ⊥ = λ is.
          differ i j d before below
          (ap (λ k. let e : Entry = record { from_as = record { 0 = k }; node = a.node } in e) same.0 ∙ ap (λ k. let e : Entry = record { from_as = b.from_as; node = k } in e) (same_addr a.node b.node is)) in
          inr (same.0, omega (arith, same.1, other))
    ]

-- what the derived order of entries says
pub entries_compared : (a b : Entry) → is_lt (ordering_then (nat_cmp b.from_as.0 a.from_as.0) (nat_cmp (rank b.node) (rank a.node))) ≡ false → IsEntryUpTo a b
entries_compared a b is =
    elim (cases_lt a.from_as.0 b.from_as.0) [
      | inl less ↦ inl less
      | inr ge ↦ elim (cases_lt b.from_as.0 a.from_as.0) [
        | inl more ↦
            let t : nat_lt b.from_as.0 a.from_as.0 ≡ true = lt-ltb b.from_as.0 a.from_as.0 more in
            let h : true ≡ false = rw t at is in
            absurd (cc)
        | inr le ↦
            let same : a.from_as.0 ≡ b.from_as.0 = omega arith in
            elim (cases_lt (rank b.node) (rank a.node)) [
              | inl more ↦
                  let not_less : nat_lt b.from_as.0 a.from_as.0 ≡ false = le-ltb b.from_as.0 a.from_as.0 (omega arith) in
                  let equal : nat_eq b.from_as.0 a.from_as.0 ≡ true = (Decides-eqb b.from_as.0 a.from_as.0).1 (sym same) in
                  let t : nat_lt (rank b.node) (rank a.node) ≡ true = lt-ltb (rank b.node) (rank a.node) more in
                  let h : true ≡ false = rw (not_less, equal, t) at is in
                  absurd (cc)
              | inr fits ↦ inr (same, fits)
            ]
      ]
    ]
