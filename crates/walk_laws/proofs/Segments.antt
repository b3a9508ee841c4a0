-- A chosen segment is a walk of its label, and the only one; with a least walk beyond its exit it is a least walk.
use Rattle.std.proofs.Common.{◌≡◌, inl, inr, ℕ, ◌+◌, ◌<◌, ◌≤◌, List, [], ◌∷◌, arith, refl, sym, ◌∙◌, ap, subst, Some, get_or}
use Rattle.std.specs.Prelude.{Contains, AllPairs}
use Rattle.std.proofs.lemmas.Bool.{cases_lt, cases_eq}
use Rattle.std.proofs.lemmas.List.{get_or_default}
use Rattle.std.proofs.lemmas.List.Elements.{Contains-push_cases}
use Rattle.dom_base.specs.AddrOrder.{rank}
use Rattle.dom_base.specs.declared.addr.Addr.{Addr}
use Rattle.dom_base.specs.declared.link.Link.{Link}
use Rattle.dom_base.specs.declared.query.Query.{Query}
use Rattle.dom_base.specs.declared.query.Seed.{Seed}
use Rattle.dom_base.specs.declared.query.Label.{Label}
use Rattle.dom_base.specs.Admission.{weight}
use Rattle.te_links.specs.declared.rows.OutLink.{OutLink}
use Rattle.te_links.specs.Rows.{Rows}
use Rattle.walk_laws.specs.Walks.{AdmitsNode, Walk, cost}
use Rattle.walk_laws.specs.Labels.{IsLabel, IsChosen, IsSegment}
use Rattle.walk_laws.specs.Crossing.{Leg, Told, Over, Arrives, CrossingWalk, crossing_cost, query_in, IsLeastCrossing}
use Rattle.walk_laws.specs.Borders.{IsBorderSeed}
use Rattle.walk_laws.specs.Segments.{SegmentIsWalk, OneSegment, ShownComposes, ShownEnds, ShownReports}
use Rattle.walk_laws.proofs.Admitted.{walk_admits}
use Rattle.walk_laws.proofs.Tight.{label_unique}
use Rattle.walk_laws.proofs.Joining.{label_joins, label_joins_at}
use Rattle.walk_laws.proofs.Composing.{composes, reports, ends}

-- a walk to a seed, whose cost and the seed's are the label's
pub record Leads (g : Rows) (q : Query) (seeds : List Seed) (u : Addr) (a : Label) (links : List Link) : Type 0 where
  pub seed : Seed
  pub is_seed : Contains seeds seed
  pub walk : Walk g q u seed.node links
  pub sum : a.cost ≡ cost q links + seed.cost
  pub exit : a.exit ≡ seed.exit

pub leads : (g : Rows) (q : Query) (seeds : List Seed) (u : Addr) (a : Label) (links : List Link) → AdmitsNode g q u → IsSegment g q seeds u a links → Leads g q seeds u a links
leads g q seeds u a [] admits segment = record {
  seed = record { node = u; cost = a.cost; exit = a.exit };
  is_seed = segment;
  walk = (refl, admits);
  sum = omega arith;
  exit = refl;
}
leads g q seeds u a (l ∷ ls) admits segment =
    let rest = segment.1.0 in
    let chosen = segment.1.1 in
    let on = leads g q seeds l.to rest ls chosen.tight.admitted.to segment.1.2 in
    record {
      seed = on.seed;
      is_seed = on.is_seed;
      walk = (chosen.from, chosen.tight.admitted, on.walk);
      sum = omega (arith, chosen.tight.sum, on.sum);
      exit = chosen.tight.exit ∙ on.exit;
    }

pub segment_is_walk : SegmentIsWalk
segment_is_walk g q seeds u a links is segment =
    let on = leads g q seeds u a links (walk_admits g q u is.0.seed.node is.0.links is.0.walk) segment in (
      record {
        seed = on.seed;
        is_seed = on.is_seed;
        links = links;
        walk = on.walk;
        sum = on.sum;
        exit = on.exit;
        within = is.0.within;
      },
      refl,
    )

-- of rows in strictly rising order, two of one rank are one
pub one_of : {A : Type 0} (at : A → ℕ) (xs : List A) → AllPairs (λ x y. at x < at y) xs → (x y : A) → Contains xs x → Contains xs y → at x ≡ at y → x ≡ y
one_of at xs rising x y (i, i_in, is_x) (j, j_in, is_y) same =
    let at_y : get_or xs j x ≡ y = get_or_default xs j x y j_in ∙ is_y in
    let at_x : get_or xs i y ≡ x = get_or_default xs i y x i_in ∙ is_x in
    elim (cases_eq i j) [
      | inl one ↦ sym is_x ∙ ap (λ k. get_or xs k x) one ∙ at_y
      | inr apart ↦ elim (cases_lt i j) [
        | inl before ↦ absurd (let less = rising i j x before j_in in omega (arith, less, ap at is_x, ap at at_y, same))
        | inr after ↦ absurd (let less = rising j i y (omega (arith, apart, after)) i_in in omega (arith, less, ap at is_y, ap at at_x, same))
      ]
    ]

pub one_segment : OneSegment
one_segment g q seeds u a [] [] order one other = refl
one_segment g q seeds u a [] (m ∷ ms) order one other = absurd (other.0 one)
one_segment g q seeds u a (l ∷ ls) [] order one other = absurd (one.0 other)
one_segment g q seeds u a (l ∷ ls) (m ∷ ms) order one other =
    let r = one.1.0 in
    let chosen = one.1.1 in
    let s = other.1.0 in
    let chosen' = other.1.1 in
    let fars : rank l.far ≡ rank m.far = omega (arith, chosen.least m s chosen'.from chosen'.tight, chosen'.least l r chosen.from chosen.tight) in
    let same : l ≡ m = one_of (λ (k : Link). rank k.far) g.links order.links l m chosen.tight.admitted.is_link chosen'.tight.admitted.is_link fars in
    go m same chosen' other.1.2 (λ onward. one_segment g q seeds l.to r ls ms order one.1.2 onward)
  where
    go : (k : Link) → l ≡ k → IsChosen g q seeds u a k other.1.0 → IsSegment g q seeds k.to other.1.0 ms →
        (IsSegment g q seeds l.to one.1.0 ms → ls ≡ ms) → l ∷ ls ≡ k ∷ ms
    go k same chosen' onward tails =
        let to : IsLabel g q seeds l.to (Some other.1.0) = subst (λ (x : Link). IsLabel g q seeds x.to (Some other.1.0)) (sym same) chosen'.tight.at_end in
        let labels : Some one.1.0 ≡ Some other.1.0 = label_unique g q seeds l.to (Some one.1.0) other.1.0 one.1.1.tight.at_end to in
        let label : one.1.0 ≡ other.1.0 = cc in
        let there : IsSegment g q seeds l.to one.1.0 ms =
        subst (λ (b : Label). IsSegment g q seeds l.to b ms) (sym label) (subst (λ (x : Link). IsSegment g q seeds x.to other.1.0 ms) (sym same) onward) in
        ap (λ (x : Link). x ∷ ls) same ∙ ap (λ (xs : List Link). k ∷ xs) (tails there)

pub shown_composes : ShownComposes
shown_composes q g h rest goal down seeds order are are_seeds entry a links is segment o is_out far legs last onward =
    let own = query_in q g.own in
    let on = leads g own seeds entry a links (walk_admits g own entry is.0.seed.node is.0.links is.0.walk) segment in
    let found = are_seeds.each on.seed on.is_seed in
    let p = found.0 in
    let s = found.1 in
    let same : p ≡ o = one_of (λ (x : OutLink). rank x.link.far) g.outs order.outs p o s.out.is_out is_out (ap rank (sym s.exit ∙ sym on.exit ∙ sym far)) in
    go on (subst (λ (x : OutLink). IsBorderSeed g own h.own down x on.seed) same s)
  where
    own : Query
    own = query_in q g.own

    go : (on : Leads g own seeds entry a links) → IsBorderSeed g own h.own down o on.seed →
        IsLeastCrossing q g (h ∷ rest) entry goal (record { links = links; out = o } ∷ legs) last × (a.cost ≡ crossing_cost q (record { links = links; out = o } ∷ legs) last)
    go on s =
        let out = s.out in
        let told = are.each o.link.to s.beyond s.is_down.is_row in
        let right = told.1 in
        let one = onward.least right.legs right.last right.least.feasible in
        let other = right.least.least legs last onward.feasible in
        let sum : a.cost ≡ cost own links + weight q.metric o.link + crossing_cost q legs last = omega (arith, on.sum, s.sum, right.is, one, other) in
        let joined = composes q g h rest goal down are entry (Some a) (label_joins g own h.own down seeds are_seeds entry (Some a) is) in
        let walk : CrossingWalk q g (h ∷ rest) entry goal (record { links = links; out = o } ∷ legs) last = (
          subst (λ (n : Addr). Walk g own entry n links) s.node on.walk,
          record { is_out = out.is_out; towards = out.towards; allowed = out.allowed; entry = told.0 },
          onward.feasible.walk,
        ) in (
          record {
            feasible = record { walk = walk; within = omega (arith, sum, is.0.within) };
            least = λ others end f. let low = joined.least.least others end f in omega (arith, low, joined.is, sum);
          },
          sum,
        )

pub shown_ends : ShownEnds
shown_ends q g t entry a links is segment =
    let own = query_in q g.own in
    let goal : Seed = record { node = t; cost = 0; exit = t } in
    let on = leads g own (goal ∷ []) entry a links (walk_admits g own entry is.0.seed.node is.0.links is.0.walk) segment in
    let same : goal ≡ on.seed = elim (Contains-push_cases [] goal on.seed on.is_seed) [ inl nothing ↦ absurd (omega (arith, nothing.1)) | inr one ↦ one ] in
    let sum : a.cost ≡ cost own links = omega (arith, on.sum, ap (λ (s : Seed). s.cost) same) in
    let joined = ends q g entry t (Some a) (label_joins_at g own t goal refl refl refl entry (Some a) is) in
    let walk : Walk g own entry t links = subst (λ (s : Seed). Walk g own entry s.node links) (sym same) on.walk in (
      record {
        feasible = record { walk = walk; within = omega (arith, sum, is.0.within) };
        least = λ others end f. let low = joined.least.least others end f in omega (arith, low, joined.is, sum);
      },
      sum,
    )

pub shown_reports : ShownReports
shown_reports q g next down seeds order are_seeds entry a links is segment o is_out far c is_down =
    let on = leads g own seeds entry a links (walk_admits g own entry is.0.seed.node is.0.links is.0.walk) segment in
    let found = are_seeds.each on.seed on.is_seed in
    let p = found.0 in
    let s = found.1 in
    let same : p ≡ o = one_of (λ (x : OutLink). rank x.link.far) g.outs order.outs p o s.out.is_out is_out (ap rank (sym s.exit ∙ sym on.exit ∙ sym far)) in
    go on (subst (λ (x : OutLink). IsBorderSeed g own next down x on.seed) same s)
  where
    own : Query
    own = query_in q g.own

    leg : Leg
    leg = record { links = links; out = o }

    go : (on : Leads g own seeds entry a links) → IsBorderSeed g own next down o on.seed →
        IsLeastCrossing q g [] entry (Told next down) [] (Over leg c) × (a.cost ≡ crossing_cost q [] (Over leg c))
    go on s =
        let one : c ≤ s.beyond = is_down.least s.beyond s.is_down.is_row in
        let other : s.beyond ≤ c = s.is_down.least c is_down.is_row in
        let sum : a.cost ≡ cost own links + weight q.metric o.link + c = omega (arith, on.sum, s.sum, one, other) in
        let joined = reports q g next down entry (Some a) (label_joins g own next down seeds are_seeds entry (Some a) is) in
        let walk : Arrives g own entry (Told next down) (Over leg c) = (subst (λ (n : Addr). Walk g own entry n links) s.node on.walk, s.out, is_down.is_row) in (
          record {
            feasible = record { walk = walk; within = omega (arith, sum, is.0.within) };
            least = λ others end f. let low = joined.least.least others end f in omega (arith, low, joined.is, sum);
          },
          sum,
        )
