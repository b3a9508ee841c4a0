-- Distances to a node are the labels of a search from it, and the path that goes by the first tight arcs is the chosen segment.
use Rattle.std.proofs.Common.{◌≡◌, inl, inr, ℕ, zero, suc, ◌+◌, ◌*◌, ◌<◌, ◌≤◌, ◌==◌, Bool, List, [], ◌∷◌, length, map, arith, refl, sym, ◌∙◌, ap, subst, None, Some, if◌then◌else◌}
use Rattle.std.specs.Prelude.{Contains, slice_get}
use Rattle.std.specs.declared.option.Option.{Option}
use Rattle.std.proofs.lemmas.Bool.{cases_lt}
use Rattle.std.proofs.lemmas.Bool.Decides.{eqb_tells}
use Rattle.std.proofs.lemmas.List.{get_or-map, length-map}
use Rattle.std.proofs.lemmas.Option.{slice_get_within}
use Rattle.dom_base.specs.AddrOrder.{rank}
use Rattle.dom_base.specs.declared.addr.Addr.{Addr}
use Rattle.dom_base.specs.declared.link.Link.{Link}
use Rattle.dom_base.specs.declared.query.Query.{Query}
use Rattle.dom_base.specs.declared.query.Label.{Label}
use Rattle.dom_base.specs.declared.query.Seed.{Seed}
use Rattle.dom_base.specs.Admission.{weight}
use Rattle.te_links.specs.declared.limits.TheConstants.{NODES_MAX, METRIC_MAX}
use Rattle.te_links.specs.Rows.{Rows, IsTopology, IsInOrder}
use Rattle.walk_laws.specs.Walks.{AdmitsNode, AdmitsLink}
use Rattle.walk_laws.specs.Labels.{IsLabel, EndsAt, IsSegment}
use Rattle.walk_laws.specs.Certificate.{AtMost, before, SeedHolds, LinkHolds, NodeHolds, Labelling}
use Rattle.walk_laws.proofs.Reached.{certified}
use Rattle.walk_laws.proofs.Tight.{label_unique}
use Rattle.path_search.specs.Arcs.{label_at}
use Rattle.path_search.proofs.Places.{same_place, label_of, label_of-at, label_of_found}
use Rattle.path_search.specs.Segments.{AreAt}
use Rattle.diverse_pairs.specs.declared.arcs.Arc.{Arc}
use Rattle.diverse_pairs.specs.declared.arcs.TheConstants.{UNREACHED}
use Rattle.diverse_pairs.specs.Arcs.{at, IsAmong}
use Rattle.diverse_pairs.specs.Distances.{AreDistances, IsTight, AreTight, AreNear}
use Rattle.diverse_pairs.specs.Paths.{Goes}
use Rattle.diverse_pairs.specs.Chosen.{target_seed}
use Rattle.diverse_pairs.specs.Network.{AreArcs}
use Rattle.diverse_pairs.proofs.Beside.{near}
use Rattle.diverse_pairs.proofs.Linked.{admitted_arc, arc_link, arcs_among, arcs_light, one_node, one_link, rank_le}

pub made_label : ℕ → Addr → Label
made_label d t = record { cost = d; exit = t }

-- the label that a distance to t makes
pub to_label : Addr → ℕ → Option Label
to_label t d = if d == UNREACHED then None else Some (made_label d t)

some_label : (t : Addr) (d : ℕ) → d < UNREACHED → to_label t d ≡ Some (made_label d t)
unfolding to_label
some_label t d reached = elim (eqb_tells d UNREACHED) [ inl far ↦ absurd (omega (arith, reached, far.1)) | inr near ↦ rw near.0 refl ]

label_told : (t : Addr) (d : ℕ) (b : Label) → d ≤ UNREACHED → to_label t d ≡ Some b → (d < UNREACHED) × (made_label d t ≡ b)
unfolding to_label
label_told t d b within is = elim (eqb_tells d UNREACHED) [
  | inl far ↦ let none : None ≡ Some b = rw far.0 at is in cc
  | inr near ↦ let both : Some (made_label d t) ≡ Some b = rw near.0 at is in (omega (arith, within, near.1), cc)
]

cost_is : (d : ℕ) (t : Addr) → (made_label d t).cost ≡ d
unfolding made_label
cost_is d t = refl

exit_is : (d : ℕ) (t : Addr) → (made_label d t).exit ≡ t
unfolding made_label
exit_is d t = refl

same_made : (d : ℕ) (t : Addr) (b : Label) → made_label d t ≡ b → (d ≡ b.cost) × (t ≡ b.exit)
same_made d t b is = (sym (cost_is d t) ∙ ap (λ (a : Label). a.cost) is, sym (exit_is d t) ∙ ap (λ (a : Label). a.exit) is)

one_seed : (s t : Seed) → Contains (s ∷ []) t → s ≡ t
one_seed s t (zero, below, is) = is
one_seed s t (suc k, below, is) = absurd (omega arith)

-- distances that were found, for a query whose cap no least walk exceeds
pub record AreFound (g : Rows) (q : Query) (arcs : List (Option Arc)) (ds : List ℕ) (place : ℕ) (t : Addr) : Type 0 where
  pub valid : IsTopology g
  pub order : IsInOrder g
  pub are : AreArcs g q arcs
  pub at_target : slice_get g.nodes place ≡ Some t
  pub admits : AdmitsNode g q t
  pub long : length ds ≡ length g.nodes
  pub found : AreDistances arcs place ds
  pub wide : NODES_MAX * METRIC_MAX ≤ q.cap

module _ (g : Rows) (q : Query) (arcs : List (Option Arc)) (ds : List ℕ) (place : ℕ) (t : Addr) (f : AreFound g q arcs ds place t) where
  abbrev labels : List (Option Label)
  labels = map (to_label t) ds

  abbrev pub label : Labelling
  label = label_of g.nodes labels

  is_near : AreNear ds
  is_near =
      near arcs place ds f.found (λ i a is_arc. subst (λ n. IsAmong n a) (sym f.long) (arcs_among g q arcs f.valid f.are i a is_arc)) (arcs_light g q arcs f.valid f.are)
      (omega (arith, f.long, f.valid.few_nodes))

  labels_at : (i : ℕ) → i < length ds → label_at labels i ≡ to_label t (at ds i)
  labels_at i inside = get_or-map (to_label t) ds i 0 None inside

  pub at_node : (i : ℕ) (n : Addr) → slice_get g.nodes i ≡ Some n → label n ≡ to_label t (at ds i)
  at_node i n is =
      label_of-at g.nodes labels i n (length-map {A = ℕ} {B = Option Label} ds (to_label t) ∙ f.long) is (λ j at_j. same_place g.nodes f.valid.nodes_differ j i n at_j is)
      ∙ labels_at i (omega (arith, f.long, slice_get_within g.nodes i n is))

  at_target : label t ≡ Some (made_label 0 t)
  at_target = at_node place t f.at_target ∙ ap (to_label t) f.found.made.at_target ∙ some_label t 0 (omega arith)

  at_seeds : (s : Seed) → Contains (target_seed t ∷ []) s → SeedHolds g q label s
  at_seeds s is_seed =
      subst (SeedHolds g q label) (one_seed (target_seed t) s is_seed)
      (λ admitted within. subst (λ (o : Option Label). AtMost o (record { cost = 0; exit = t })) (sym at_target) (inr (cost_is 0 t, omega (arith, ap rank (exit_is 0 t)))))

  at_links : (l : Link) → LinkHolds g q label l
  at_links l b admitted is within =
      let h = admitted_arc g q arcs f.are l admitted in
      let a = h.arc in
      let told = label_told t (at ds a.head) b (f.found.made.within a.head) (sym (at_node a.head l.to h.head) ∙ is) in
      let same = same_made (at ds a.head) t b told.1 in
      let low = f.found.low h.place a h.is_arc in
      let reached : at ds a.tail < UNREACHED = omega (arith, low, is_near a.head told.0, arcs_light g q arcs f.valid f.are h.place a h.is_arc) in
      subst (λ (o : Option Label). AtMost o (before q l b)) (sym (at_node a.tail l.from h.tail ∙ some_label t (at ds a.tail) reached))
      (elim (cases_lt (at ds a.tail) (weight q.metric l + b.cost)) [
        | inl lt ↦ inl (omega (arith, lt, cost_is (at ds a.tail) t))
        | inr ge ↦ inr (omega (arith, ge, low, h.weight, same.0, cost_is (at ds a.tail) t), omega (arith, ap rank (exit_is (at ds a.tail) t), ap rank same.1))
      ])

  ends_here : (n : Addr) (i : ℕ) (b : Label) → slice_get g.nodes i ≡ Some n → i ≡ place → made_label (at ds i) t ≡ b → EndsAt (target_seed t ∷ []) n b
  ends_here n i b is here made =
      let same : t ≡ n = one_node g.nodes place t n f.at_target (ap (slice_get g.nodes) (sym here) ∙ is) in
      let parts = same_made (at ds i) t b made in
      let zero_cost : 0 ≡ b.cost = omega (arith, parts.0, f.found.made.at_target, ap (at ds) here) in
      let make : Addr → ℕ → Addr → Seed = λ m c e. record { node = m; cost = c; exit = e } in
      (0, omega arith, ap (λ m. make m 0 t) same ∙ ap (λ c. make n c t) zero_cost ∙ ap (λ e. make n b.cost e) parts.1)

  at_nodes : (n : Addr) (b : Label) → label n ≡ Some b → NodeHolds g q (target_seed t ∷ []) label n b
  at_nodes n b is =
      let found = label_of_found g.nodes labels n b is in
      let i = found.0 in
      let inside : i < length ds = omega (arith, f.long, slice_get_within g.nodes i n found.1.0) in
      let told = label_told t (at ds i) b (f.found.made.within i) (sym (labels_at i inside) ∙ found.1.1) in
      let parts = same_made (at ds i) t b told.1 in
      elim (f.found.made.each i inside told.0) [
        | inl here ↦ record {
          admitted = subst (AdmitsNode g q) (one_node g.nodes place t n f.at_target (ap (slice_get g.nodes) (sym here) ∙ found.1.0)) f.admits;
          within = omega (arith, is_near i told.0, f.wide, parts.0);
          made = inl (ends_here n i b found.1.0 here told.1);
        }
        | inr m ↦
            let of = arc_link g q arcs f.are m.place m.arc m.is_arc in
            let from : of.link.from ≡ n = one_node g.nodes i of.link.from n (ap (slice_get g.nodes) (sym m.tail) ∙ of.tail) found.1.0 in
            let low = f.found.low m.place m.arc m.is_arc in
            let reached : at ds m.arc.head < UNREACHED = omega (arith, m.no_more, told.0) in
            let rest = made_label (at ds m.arc.head) t in
            let make : ℕ → Addr → Label = λ c e. record { cost = c; exit = e } in
            let sum : b.cost ≡ weight q.metric of.link + rest.cost = omega (arith, parts.0, low, m.no_more, ap (at ds) m.tail, of.weight, cost_is (at ds m.arc.head) t) in
            record {
              admitted = subst (AdmitsNode g q) from of.at_place.admitted.from;
              within = omega (arith, is_near i told.0, f.wide, parts.0);
              made = inr (
                of.link,
                record {
                  admitted = of.at_place.admitted;
                  from = from;
                  rest = rest;
                  at_end = at_node m.arc.head of.link.to of.head ∙ some_label t (at ds m.arc.head) reached;
                  sum = ap (λ c. make c b.exit) sum ∙ ap (λ e. make (weight q.metric of.link + rest.cost) e) (sym parts.1 ∙ sym (exit_is (at ds m.arc.head) t));
                },
              );
            }
      ]

  -- each node has its label
  pub is_label : (n : Addr) → IsLabel g q (target_seed t ∷ []) n (label n)
  is_label n = certified g q (target_seed t ∷ []) label f.valid (record { at_seeds = at_seeds; at_links = at_links; at_nodes = at_nodes }) n

  pub has_label : (i : ℕ) (n : Addr) → slice_get g.nodes i ≡ Some n → at ds i < UNREACHED → IsLabel g q (target_seed t ∷ []) n (Some (made_label (at ds i) t))
  has_label i n is reached = subst (IsLabel g q (target_seed t ∷ []) n) (at_node i n is ∙ some_label t (at ds i) reached) (is_label n)

  -- the path by the first tight arcs
  pub segment : (marks : List Bool) → AreTight arcs ds marks → (is : List ℕ) (u : ℕ) (n : Addr) (ls : List Link) → slice_get g.nodes u ≡ Some n → at ds u < UNREACHED → Goes arcs marks u is place → AreAt g.links is ls →
      IsSegment g q (target_seed t ∷ []) n (made_label (at ds u) t) ls
  segment marks tight [] u n [] is_n reached goes at_links' = ends_here n u (made_label (at ds u) t) is_n goes refl
  segment marks tight [] u n (l ∷ ls) is_n reached goes at_links' = absurd at_links'
  segment marks tight (i ∷ is) u n [] is_n reached goes at_links' = absurd at_links'
  segment marks tight (i ∷ is) u n (l ∷ ls) is_n reached goes at_links' =
      let step = goes.2 in
      let v = goes.1 in
      let a = step.arc in
      let of = arc_link g q arcs f.are i a step.is_arc in
      let same : of.link ≡ l = one_link g.links i of.link l of.at_place.at_link at_links'.0 in
      let tail : slice_get g.nodes u ≡ Some l.from = ap (slice_get g.nodes) (sym step.tail) ∙ of.tail ∙ ap (λ (k : Link). Some k.from) same in
      let head : slice_get g.nodes v ≡ Some l.to = ap (slice_get g.nodes) (sym step.same_head) ∙ of.head ∙ ap (λ (k : Link). Some k.to) same in
      let t' : IsTight ds a = (tight i a step.is_arc).0 step.used in
      let sum : at ds u ≡ weight q.metric l + at ds v = omega (arith, t'.sum, of.weight, ap (weight q.metric) same, ap (at ds) step.tail, ap (at ds) step.same_head) in
      let onward : at ds v < UNREACHED = omega (arith, sum, reached) in (
        λ ends.
            let here : target_seed t ≡ record { node = n; cost = (made_label (at ds u) t).cost; exit = (made_label (at ds u) t).exit } = one_seed (target_seed t) _ ends in
            let node : t ≡ n = ap (λ (s : Seed). s.node) here in
            goes.0 (same_place g.nodes f.valid.nodes_differ u place n is_n (f.at_target ∙ ap (λ (m : Addr). Some m) node)),
        (
          made_label (at ds v) t,
          record {
            from = one_node g.nodes u l.from n tail is_n;
            tight = record {
              admitted = subst (AdmitsLink g q) same of.at_place.admitted;
              at_end = has_label v l.to head onward;
              sum = omega (arith, sum, cost_is (at ds u) t, cost_is (at ds v) t);
              exit = exit_is (at ds u) t ∙ sym (exit_is (at ds v) t);
            };
            least = λ m r from tight'.
                let h = admitted_arc g q arcs f.are m tight'.admitted in
                let b = h.arc in
                let here : b.tail ≡ u = same_place g.nodes f.valid.nodes_differ b.tail u n (h.tail ∙ ap (λ (k : Addr). Some k) from) is_n in
                let is_r : to_label t (at ds b.head) ≡ Some r = sym (at_node b.head m.to h.head) ∙ label_unique g q (target_seed t ∷ []) m.to (label m.to) r (is_label m.to) tight'.at_end in
                let told = label_told t (at ds b.head) r (f.found.made.within b.head) is_r in
                let parts = same_made (at ds b.head) t r told.1 in
                let is_tight : IsTight ds b = record {
                  reached = omega (arith, reached, ap (at ds) here);
                  sum = omega (arith, tight'.sum, cost_is (at ds u) t, parts.0, h.weight, ap (at ds) here);
                } in
                rank_le g f.order i h.place l m at_links'.0 h.at_link (step.first h.place b h.is_arc ((tight h.place b h.is_arc).1 is_tight) here);
          },
          segment marks tight is v l.to ls head onward goes.3 at_links'.1,
        ),
      )
