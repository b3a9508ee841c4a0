-- Settled labels meet the conditions of a certificate.
use Rattle.std.proofs.Common.{◌≡◌, inl, inr, ℕ, ◌+◌, ◌≤◌, List, length, arith, refl, sym, ◌∙◌, ap, subst, None, Some}
use Rattle.std.specs.Prelude.{Contains, All, slice_get, slice_index_or}
use Rattle.std.specs.declared.option.Option.{Option}
use Rattle.std.proofs.lemmas.List.Elements.{All-contains}
use Rattle.std.proofs.lemmas.List.{get_or_default}
use Rattle.std.proofs.lemmas.Option.{slice_get_within}
use Rattle.dom_base.proofs.Ranks.{same_addr}
use Rattle.dom_base.specs.declared.addr.Addr.{Addr}
use Rattle.dom_base.specs.declared.link.Link.{Link}
use Rattle.dom_base.specs.declared.query.Query.{Query}
use Rattle.dom_base.specs.declared.query.Metric.{Metric}
use Rattle.dom_base.specs.declared.query.Metric.TheVariants.{Igp, Te, Hops}
use Rattle.dom_base.specs.Admission.{weight}
use Rattle.dom_base.specs.declared.query.Seed.{Seed}
use Rattle.dom_base.specs.declared.query.Label.{Label}
use Rattle.te_links.specs.Rows.{Rows, IsTopology, IsInnerLink}
use Rattle.walk_laws.specs.Walks.{AdmitsNode, AdmitsLink}
use Rattle.walk_laws.specs.Labels.{◌≼◌, IsLabel, EndsAt}
use Rattle.walk_laws.specs.Certificate.{AtMost, before, SeedHolds, LinkHolds, NodeHolds, IsMadeBy, Certifies}
use Rattle.walk_laws.proofs.Lower.{at_most_le, le_cost}
use Rattle.walk_laws.proofs.Reached.{certified}
use Rattle.path_search.specs.declared.arc.Arc.{Arc}
use Rattle.path_search.specs.Arcs.{label_at, joined, IsWithin, IsArcAmong, IsRelaxed, IsSupportedBy, Settles}
use Rattle.path_search.specs.Starts.{IsCovered, AreStarts}
use Rattle.path_search.specs.Search.{IsArcOf, AreLabels}
use Rattle.path_search.specs.Reading.{IsArcAt}
use Rattle.path_search.proofs.Places.{same_place, place_of, contains_at, label_of, label_of-at, label_of_found}

le_antisym : (a b : Label) → a ≼ b → b ≼ a → a ≡ b
le_antisym a b (inl lt) (inl lt') = absurd (omega arith)
le_antisym a b (inl lt) (inr le') = absurd (omega (arith, lt, le'.0))
le_antisym a b (inr le) (inl lt') = absurd (omega (arith, lt', le.0))
le_antisym a b (inr le) (inr le') =
    let exits : a.exit ≡ b.exit = same_addr a.exit b.exit (omega (arith, le.1, le'.1)) in
    let make : ℕ → Addr → Label = λ n e. record { cost = n; exit = e } in
    ap (λ n. make n a.exit) le.0 ∙ ap (λ e. make b.cost e) exits

-- What a search has at its end.
pub record HasSettled (g : Rows) (q : Query) (seeds : List Seed) (arcs : List Arc) (start labels : List (Option Label)) : Type 0 where
  pub valid : IsTopology g
  pub each : All (λ a. IsArcOf g q a.link a) arcs
  pub every : (p : ℕ) (l : Link) (i : ℕ) (b : Label) → slice_get g.links p ≡ Some l → AdmitsLink g q l → slice_get g.nodes i ≡ Some l.to → label_at labels i ≡ Some b →
      (a : Arc) × (Contains arcs a × IsArcOf g q p a)
  pub starts_are : AreStarts g q seeds start
  pub settled : Settles q.cap arcs start labels

long_enough : (g : Rows) (q : Query) (seeds : List Seed) (arcs : List Arc) (start ls : List (Option Label)) → HasSettled g q seeds arcs start ls → length ls ≡ length g.nodes
long_enough g q seeds arcs start ls h = h.settled.same_length ∙ h.starts_are.same_length

-- the label of a node is that of its place
by_place : (g : Rows) (q : Query) (seeds : List Seed) (arcs : List Arc) (start ls : List (Option Label)) → HasSettled g q seeds arcs start ls →
    (i : ℕ) (n : Addr) → slice_get g.nodes i ≡ Some n → label_of g.nodes ls n ≡ label_at ls i
by_place g q seeds arcs start ls h i n at_i =
    label_of-at g.nodes ls i n (long_enough g q seeds arcs start ls h) at_i (λ j at_j. same_place g.nodes h.valid.nodes_differ j i n at_j at_i)

at_seeds : (g : Rows) (q : Query) (seeds : List Seed) (arcs : List Arc) (start ls : List (Option Label)) → HasSettled g q seeds arcs start ls →
    (s : Seed) → Contains seeds s → SeedHolds g q (label_of g.nodes ls) s
at_seeds g q seeds arcs start ls h s is_seed admitted within =
    let place = place_of g.nodes s.node admitted.is_node in
    let a : Label = record { cost = s.cost; exit = s.exit } in
    let at_start : AtMost (label_at start place.0) a = All-contains (IsCovered g q start) seeds s h.starts_are.covered is_seed admitted within place.0 place.1 in
    subst (λ (o : Option Label). AtMost o a) (sym (by_place g q seeds arcs start ls h place.0 s.node place.1))
    (lowered place.0 a (label_at start place.0) refl at_start)
  where
    lowered : (i : ℕ) (a : Label) (o : Option Label) → label_at start i ≡ o → AtMost o a → AtMost (label_at ls i) a
    lowered i a None is most = absurd most
    lowered i a (Some b) is most = at_most_le (label_at ls i) b a (h.settled.no_higher i b is) most

-- the sum at an arc is the sum at its link
same_sum : (q : Query) (l : Link) (a : Arc) (rest : Label) → a.weight ≡ weight q.metric l → joined a rest ≡ before q l rest
same_sum q l a rest is = ap (λ n. let b : Label = record { cost = n + rest.cost; exit = rest.exit } in b) is

at_links : (g : Rows) (q : Query) (seeds : List Seed) (arcs : List Arc) (start ls : List (Option Label)) → HasSettled g q seeds arcs start ls →
    (l : Link) → LinkHolds g q (label_of g.nodes ls) l
at_links g q seeds arcs start ls h l a admitted is within =
    let place = place_of g.links l admitted.is_link in
    let end = place_of g.nodes l.to admitted.to.is_node in
    let e = h.every place.0 l end.0 a place.1 admitted end.1 (sym (by_place g q seeds arcs start ls h end.0 l.to end.1) ∙ is) in
    let arc = e.0 in
    let of = e.1.1 in
    let both : Some of.link ≡ Some l = sym of.at_link ∙ place.1 in
    let same : of.link ≡ l = cc in
    let head : slice_get g.nodes arc.head ≡ Some l.to = of.head ∙ ap (λ (m : Link). Some m.to) same in
    let tail : slice_get g.nodes arc.tail ≡ Some l.from = of.tail ∙ ap (λ (m : Link). Some m.from) same in
    let heavy : arc.weight ≡ weight q.metric l = of.weight ∙ ap (weight q.metric) same in
    let at_head : label_at ls arc.head ≡ Some a = sym (by_place g q seeds arcs start ls h arc.head l.to head) ∙ is in
    let relaxed : IsRelaxed q.cap ls arc = All-contains (IsRelaxed q.cap ls) arcs arc h.settled.relaxed e.1.0 in
    let most : AtMost (label_at ls arc.tail) (joined arc a) = relaxed a at_head (omega (arith, heavy, within)) in
    let at_from : AtMost (label_of g.nodes ls l.from) (joined arc a) =
    subst (λ (o : Option Label). AtMost o (joined arc a)) (sym (by_place g q seeds arcs start ls h arc.tail l.from tail)) most in
    subst (AtMost (label_of g.nodes ls l.from)) (same_sum q l arc a heavy) at_from

-- a label that an arc supports is made by its link
by_arc : (g : Rows) (q : Query) (seeds : List Seed) (arcs : List Arc) (start ls : List (Option Label)) → HasSettled g q seeds arcs start ls →
    (i : ℕ) (n : Addr) (b : Label) → slice_get g.nodes i ≡ Some n → label_at ls i ≡ Some b → b.cost ≤ q.cap →
    (arc : Arc) → Contains arcs arc → IsSupportedBy ls i b arc → (l : Link) × IsMadeBy g q (label_of g.nodes ls) n b l
by_arc g q seeds arcs start ls h i n b at_i at_label within arc is_arc s =
    let of = All-contains (λ (a : Arc). IsArcOf g q a.link a) arcs arc h.each is_arc in
    let l = of.link in
    let both : Some l.from ≡ Some n = sym of.tail ∙ ap (slice_get g.nodes) s.tail ∙ at_i in
    let from : l.from ≡ n = cc in
    let no_more : (joined arc s.rest).cost ≤ b.cost = le_cost (joined arc s.rest) b s.no_more in
    let relaxed : IsRelaxed q.cap ls arc = All-contains (IsRelaxed q.cap ls) arcs arc h.settled.relaxed is_arc in
    let most : AtMost (label_at ls arc.tail) (joined arc s.rest) = relaxed s.rest s.at_head (omega (arith, no_more, within)) in
    let at_tail : label_at ls arc.tail ≡ Some b = ap (label_at ls) s.tail ∙ at_label in
    let below : b ≼ joined arc s.rest = subst (λ (o : Option Label). AtMost o (joined arc s.rest)) at_tail most in (
      l,
      record {
        admitted = of.admitted;
        from = from;
        rest = s.rest;
        at_end = by_place g q seeds arcs start ls h arc.head l.to of.head ∙ s.at_head;
        sum = le_antisym b (joined arc s.rest) below s.no_more ∙ same_sum q l arc s.rest of.weight;
      },
    )

at_nodes : (g : Rows) (q : Query) (seeds : List Seed) (arcs : List Arc) (start ls : List (Option Label)) → HasSettled g q seeds arcs start ls →
    (n : Addr) (b : Label) → label_of g.nodes ls n ≡ Some b → NodeHolds g q seeds (label_of g.nodes ls) n b
at_nodes g q seeds arcs start ls h n b is =
    let found = label_of_found g.nodes ls n b is in
    let at_i = found.1.0 in
    let supported = h.settled.supported found.0 b found.1.1 in
    record {
      admitted = elim supported.made [
        | inl first ↦
            let st = h.starts_are.made found.0 b first in
            let both : Some st.node ≡ Some n = sym st.at_node ∙ at_i in
            let same : st.node ≡ n = cc in
            subst (AdmitsNode g q) same st.admitted
        | inr by ↦
            let made = by_arc g q seeds arcs start ls h found.0 n b at_i found.1.1 supported.within by.0 by.1 by.2 in
            subst (AdmitsNode g q) made.1.from made.1.admitted.from
      ];
      within = supported.within;
      made = elim supported.made [
        | inl first ↦
            let st = h.starts_are.made found.0 b first in
            let both : Some st.node ≡ Some n = sym st.at_node ∙ at_i in
            let same : st.node ≡ n = cc in
            inl (subst (λ (m : Addr). EndsAt seeds m b) same st.ends)
        | inr by ↦ inr (by_arc g q seeds arcs start ls h found.0 n b at_i found.1.1 supported.within by.0 by.1 by.2)
      ];
    }

pub searched : (g : Rows) (q : Query) (seeds : List Seed) (arcs : List Arc) (start ls : List (Option Label)) → HasSettled g q seeds arcs start ls → AreLabels g q seeds ls
searched g q seeds arcs start ls h =
    let certificate : Certifies g q seeds (label_of g.nodes ls) = record {
      at_seeds = at_seeds g q seeds arcs start ls h;
      at_links = at_links g q seeds arcs start ls h;
      at_nodes = at_nodes g q seeds arcs start ls h;
    } in
    record {
      same_length = long_enough g q seeds arcs start ls h;
      each = λ i n at_i. subst (IsLabel g q seeds n) (by_place g q seeds arcs start ls h i n at_i) (certified g q seeds (label_of g.nodes ls) h.valid certificate n);
    }

pub weight_bounds : (nodes : List Addr) (metric : Metric) (l : Link) → IsInnerLink nodes l → (1 ≤ weight metric l) × (weight metric l ≤ 16777215)
weight_bounds nodes Igp l among = among.link.igp
weight_bounds nodes Te l among = among.link.te
weight_bounds nodes Hops l among = (omega arith, omega arith)

-- an arc of a link goes from one of the places to another
pub among_at : (g : Rows) (m : Metric) (n index : ℕ) (a : Arc) → IsTopology g → length g.nodes ≡ n → IsArcAt g m index a → IsArcAmong n a
among_at g m n index a valid is at =
    let bounds = weight_bounds g.nodes m at.link (All-contains (IsInnerLink g.nodes) g.links at.link valid.links (contains_at g.links index at.link at.at_link)) in
    record {
      tail = omega (arith, is, slice_get_within g.nodes a.tail at.link.from at.tail);
      head = omega (arith, is, slice_get_within g.nodes a.head at.link.to at.head);
      heavy = omega (arith, at.weight, bounds.0);
      light = omega (arith, at.weight, bounds.1);
    }

pub arc_among : (g : Rows) (q : Query) (n : ℕ) (a : Arc) → IsTopology g → length g.nodes ≡ n → IsArcOf g q a.link a → IsArcAmong n a
arc_among g q n a valid is of =
    among_at g q.metric n a.link a valid is (record { same_index = refl; link = of.link; at_link = of.at_link; tail = of.tail; head = of.head; weight = of.weight })

pub start_within : (g : Rows) (q : Query) (seeds : List Seed) (start : List (Option Label)) → AreStarts g q seeds start → All (IsWithin q.cap) start
start_within g q seeds start are k d below = go (slice_index_or start k d) refl
  where
    go : (o : Option Label) → slice_index_or start k d ≡ o → IsWithin q.cap o
    go None is = tt
    go (Some b) is = (are.made k b (get_or_default start k None d below ∙ is)).within
