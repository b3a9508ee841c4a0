-- The next links of all nodes, one node after the other.
use Rattle.std.proofs.Common.{◌≡◌, inl, inr, Bool, true, false, ℕ, ◌+◌, List, [], ◌∷◌, ◌++◌, length, replicate, arith, refl, sym, ◌∙◌, ap, subst, None, Some, length-set, get_or-set_same, get_or-set_other}
use Rattle.std.specs.Prelude.{slice_get, slice_set}
use Rattle.std.specs.declared.option.Option.{Option}
use Rattle.std.proofs.lemmas.Bool.{cases_lt, cases_eq}
use Rattle.std.proofs.lemmas.List.{get_or_past, get_or-replicate, length-replicate, length_push, get_or_append_left, get_or_push}
use Rattle.std.proofs.lemmas.List.Elements.{Contains-append_left, Contains-push_cases}
use Rattle.std.proofs.lemmas.Option.{slice_get_within}
use Rattle.dom_base.specs.declared.addr.Addr.{Addr}
use Rattle.dom_base.specs.declared.query.Query.{Query}
use Rattle.dom_base.specs.declared.query.Seed.{Seed}
use Rattle.dom_base.specs.declared.query.Label.{Label}
use Rattle.te_links.specs.Rows.{Rows, IsTopology, IsInOrder}
use Rattle.walk_laws.specs.Labels.{EndsAt, IsLabel}
use Rattle.path_search.specs.Arcs.{label_at}
use Rattle.path_search.specs.Search.{AreLabels}
use Rattle.path_search.specs.Segments.{IsTightAt}
use Rattle.path_search.proofs.Places.{same_place}
use Rattle.path_search.proofs.Choosing.{chosen, some_tight}
use Rattle.cost_cache.specs.declared.kept.Next.{Next}
use Rattle.cost_cache.specs.Entries.{IsNext, AreNexts, next_at}
use Rattle.cost_cache.specs.Hops.{IsEndBy, is_end, AreEnds, IsFirstNext, IsNextAt, AreNextsUpTo}

abbrev seed_at : Addr → Label → Seed
seed_at n a = record { node = n; cost = a.cost; exit = a.exit }

module _ (g : Rows) (labels : List (Option Label)) where
  no_end : (n i : ℕ) → is_end (replicate n false) i ≡ false
  no_end n i =
      elim (cases_lt i n) [
        | inl below ↦ get_or-replicate n i false false below
        | inr past ↦ get_or_past (replicate n false) i false (omega (arith, past, length-replicate {A = Bool} n false))
      ]

  -- a seed that equals the label of its node
  by_seed : (s : Seed) (n : Addr) (a : Label) (i : ℕ) → slice_get g.nodes i ≡ Some n → label_at labels i ≡ Some a → seed_at n a ≡ s → IsEndBy g labels s i
  by_seed s n a i at_n at_a is = record {
    at_node = at_n ∙ ap (λ (t : Seed). Some t.node) is;
    label = a;
    at_label = at_a;
    cost = ap (λ (t : Seed). t.cost) is;
    exit = ap (λ (t : Seed). t.exit) is;
  }

  is_seed : (s : Seed) (n : Addr) (a : Label) (i : ℕ) → slice_get g.nodes i ≡ Some n → label_at labels i ≡ Some a → IsEndBy g labels s i → seed_at n a ≡ s
  is_seed s n a i at_n at_a by =
      let nodes : Some n ≡ Some s.node = sym at_n ∙ by.at_node in
      let node : n ≡ s.node = cc in
      let both : Some a ≡ Some by.label = sym at_a ∙ by.at_label in
      let same : a ≡ by.label = cc in
      let cost : a.cost ≡ s.cost = ap (λ (b : Label). b.cost) same ∙ by.cost in
      let exit : a.exit ≡ s.exit = ap (λ (b : Label). b.exit) same ∙ by.exit in
      ap (λ (m : Addr). let t : Seed = record { node = m; cost = a.cost; exit = a.exit } in t) node
      ∙ ap (λ (c : ℕ). let t : Seed = record { node = s.node; cost = c; exit = a.exit } in t) cost
      ∙ ap (λ (e : Addr). let t : Seed = record { node = s.node; cost = s.cost; exit = e } in t) exit

  -- a seed that ends no segment changes nothing
  pub ends_left : (ss : List Seed) (s : Seed) (ends : List Bool) → AreEnds g ss labels ends → ((i : ℕ) → ¬ IsEndBy g labels s i) → AreEnds g (ss ++ s ∷ []) labels ends
  ends_left ss s ends are none = record {
    same_length = are.same_length;
    each = λ i n a at_n at_a. (
      λ is. Contains-append_left ss (s ∷ []) (seed_at n a) ((are.each i n a at_n at_a).0 is),
      λ has.
          elim (Contains-push_cases ss s (seed_at n a) has) [
            | inl before ↦ (are.each i n a at_n at_a).1 before
            | inr one ↦ absurd (none i (by_seed s n a i at_n at_a (sym one)))
          ],
    );
  }

  -- one that does is marked at the place of its node
  pub ends_marked : (ss : List Seed) (s : Seed) (ends : List Bool) (place : ℕ) → IsTopology g → AreEnds g ss labels ends → IsEndBy g labels s place →
      AreEnds g (ss ++ s ∷ []) labels (slice_set ends place true)
  ends_marked ss s ends place valid are by = record {
    same_length = length-set ends place true ∙ are.same_length;
    each = λ i n a at_n at_a.
        elim (cases_eq i place) [
          | inl one ↦ (
            λ is.
                let here : IsEndBy g labels s i = subst (IsEndBy g labels s) (sym one) by in
                (length ss, omega (arith, length_push ss s), get_or_push ss s (seed_at n a) (length ss) refl ∙ sym (is_seed s n a i at_n at_a here)),
            λ has. subst (λ k. is_end (slice_set ends place true) k ≡ true) (sym one)
                (get_or-set_same ends place true false (omega (arith, slice_get_within g.nodes place s.node by.at_node, are.same_length))),
          )
          | inr differs ↦
              let same : is_end (slice_set ends place true) i ≡ is_end ends i = get_or-set_other ends place i true false differs in (
                λ is. Contains-append_left ss (s ∷ []) (seed_at n a) ((are.each i n a at_n at_a).0 (sym same ∙ is)),
                λ has.
                    elim (Contains-push_cases ss s (seed_at n a) has) [
                      | inl before ↦ same ∙ (are.each i n a at_n at_a).1 before
                      | inr is ↦
                          let at_s : slice_get g.nodes i ≡ Some s.node = at_n ∙ ap (λ (t : Seed). Some t.node) (sym is) in
                          absurd (differs (same_place g.nodes valid.nodes_differ i place s.node at_s by.at_node))
                    ],
              )
        ];
  }

module _ (g : Rows) (q : Query) (seeds : List Seed) (labels : List (Option Label)) where
  -- where a segment goes on, the first tight link from the node is its next one
  pub next_is : IsInOrder g → AreLabels g q seeds labels → (i : ℕ) (n : Addr) (a : Label) → slice_get g.nodes i ≡ Some n → label_at labels i ≡ Some a →
      (¬ EndsAt seeds n a) → (o : Option Next) → IsFirstNext g q labels n a o → IsNext g q seeds n a o
  next_is order are i n a at_n at_a goes None loose =
      let is : IsLabel g q seeds n (Some a) = subst (IsLabel g q seeds n) at_a (are.each i n at_n) in
      absurd (some_tight g q seeds labels n a are is goes loose)
  next_is order are i n a at_n at_a goes (Some x) first =
      let index = first.0 in
      let next = first.1 in
      let step = next.step in
      let tight = next.tight in
      let at : IsTightAt g q labels n a step.link step = record {
        same_index = refl;
        link = tight.link;
        at_link = ap (slice_get g.links) tight.same_index ∙ tight.at_link;
        makes = tight.makes;
      } in (
        goes,
        (
          tight.link,
          step.rest,
          chosen g q seeds labels n a step order are at (λ j below. first.2 j (omega (arith, below, tight.same_index))),
          next.leads,
        ),
      )

  -- one node more
  pub next_more : (m : ℕ) (nexts : List (Option Next)) (o : Option Next) → AreNextsUpTo g q seeds labels m nexts → IsNextAt g q seeds labels m o →
      AreNextsUpTo g q seeds labels (m + 1) (nexts ++ o ∷ [])
  next_more m nexts o are is = record {
    same_length = omega (arith, length_push nexts o, are.same_length);
    each = λ i below.
        elim (cases_lt i m) [
          | inl lt ↦ subst (IsNextAt g q seeds labels i) (sym (get_or_append_left nexts (o ∷ []) None i (omega (arith, lt, are.same_length)))) (are.each i lt)
          | inr ge ↦
              let one : length nexts ≡ i = omega (arith, are.same_length) in
              let at : next_at (nexts ++ o ∷ []) i ≡ o = get_or_push nexts o None i one in
              subst (IsNextAt g q seeds labels i) (sym at) (subst (λ (k : ℕ). IsNextAt g q seeds labels k o) (sym are.same_length ∙ one) is)
        ];
  }

  -- those of all nodes
  pub nexts_are : (nexts : List (Option Next)) → AreNextsUpTo g q seeds labels (length g.nodes) nexts → AreNexts g q seeds labels nexts
  nexts_are nexts upto = record {
    same_length = upto.same_length;
    each = λ i n a at_n at_a. upto.each i (slice_get_within g.nodes i n at_n) n a at_n at_a;
  }
