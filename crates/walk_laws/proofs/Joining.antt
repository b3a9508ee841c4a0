-- The labels over the seeds of a border are the join of its rows.
use Rattle.std.proofs.Common.{◌≡◌, inl, inr, ◌+◌, ◌≤◌, List, [], ◌∷◌, arith, refl, sym, ◌∙◌, ap, subst, None, Some}
use Rattle.std.specs.declared.option.Option.{Option}
use Rattle.std.proofs.lemmas.Bool.{cases_lt}
use Rattle.std.proofs.lemmas.List.Elements.{Contains-push, Contains-push_cases}
use Rattle.dom_base.specs.declared.addr.Addr.{Addr}
use Rattle.dom_base.specs.declared.names.As.{As}
use Rattle.dom_base.specs.declared.query.Query.{Query}
use Rattle.dom_base.specs.declared.query.Seed.{Seed}
use Rattle.dom_base.specs.declared.query.Label.{Label}
use Rattle.dom_base.specs.Admission.{weight}
use Rattle.te_links.specs.Rows.{Rows}
use Rattle.walk_laws.specs.Walks.{Walk, IsLeast, cost}
use Rattle.walk_laws.specs.Labels.{Reaches, IsLabel}
use Rattle.walk_laws.specs.Borders.{Beyond, Joins, IsJoin, IsJoinAt, IsBorderSeed, AreBorderSeeds}
use Rattle.walk_laws.proofs.Lower.{le_cost}

-- the walk of a least label is a least walk to its seed
pub least_to_seed : (g : Rows) (q : Query) (seeds : List Seed) (u : Addr) (a : Label) → IsLabel g q seeds u (Some a) →
    (r : Reaches g q seeds u a) → IsLeast g q u r.seed.node r.links
least_to_seed g q seeds u a is r = record {
  feasible = record { walk = r.walk; within = omega (arith, r.sum, r.within) };
  least = λ other f.
      elim (cases_lt (cost q other) (cost q r.links)) [
        | inr no_less ↦ omega (arith, no_less)
        | inl less ↦
            let b : Label = record { cost = cost q other + r.seed.cost; exit = r.seed.exit } in
            let there : Reaches g q seeds u b = record {
              seed = r.seed;
              is_seed = r.is_seed;
              links = other;
              walk = f.walk;
              sum = refl;
              exit = refl;
              within = omega (arith, less, r.sum, r.within);
            } in
            let low : a.cost ≤ b.cost = le_cost a b (is.1 b there) in
            absurd (omega (arith, low, less, r.sum))
      ];
}

module _ (g : Rows) (q : Query) (next : As) (down : List Beyond) (seeds : List Seed) (are : AreBorderSeeds g q next down seeds) (entry : Addr) where
  -- a row with what lies beyond it is a walk to its seed
  pub reaches : (b : Label) → Joins g q next down entry b → Reaches g q seeds entry b
  reaches b j =
      let o = j.out in
      let walk = j.row.least.feasible.walk in
      let seed : Seed = record { node = o.link.from; cost = weight q.metric o.link + j.beyond; exit = o.link.far } in
      let is_seed : IsBorderSeed g q next down o seed = record {
        out = j.row.out;
        beyond = j.beyond;
        is_down = j.is_down;
        node = refl;
        sum = refl;
        exit = refl;
        within = omega (arith, j.within, j.sum, j.row.sum);
      } in
      record {
        seed = seed;
        is_seed = are.every o seed is_seed;
        links = j.row.links;
        walk = walk;
        sum = omega (arith, j.sum, j.row.sum);
        exit = j.exit;
        within = j.within;
      }

  joins : (a : Label) → IsLabel g q seeds entry (Some a) → Joins g q next down entry a
  joins a is =
      let r = is.0 in
      let found = are.each r.seed r.is_seed in
      let o = found.0 in
      let s = found.1 in
      let least : IsLeast g q entry o.link.from r.links = subst (λ (n : Addr). IsLeast g q entry n r.links) s.node (least_to_seed g q seeds entry a is r) in
      record {
        out = o;
        total = cost q r.links + weight q.metric o.link;
        row = record {
          out = s.out;
          links = r.links;
          least = least;
          sum = refl;
          within = omega (arith, r.within, r.sum, s.sum);
        };
        beyond = s.beyond;
        is_down = s.is_down;
        sum = omega (arith, r.sum, s.sum);
        exit = r.exit ∙ s.exit;
        within = r.within;
      }

  pub label_joins : (o : Option Label) → IsLabel g q seeds entry o → IsJoin g q next down entry o
  label_joins None is = λ b j. is b (reaches b j)
  label_joins (Some a) is = (joins a is, λ b j. is.1 b (reaches b j))

pub label_joins_at : (g : Rows) (q : Query) (t : Addr) (seed : Seed) → seed.node ≡ t → seed.cost ≡ 0 → seed.exit ≡ t →
    (entry : Addr) (o : Option Label) → IsLabel g q (seed ∷ []) entry o → IsJoinAt g q t entry o
label_joins_at g q t seed at_node at_cost at_exit entry None is =
    λ links f.
    is (record { cost = cost q links; exit = seed.exit }) (record {
      seed = seed;
      is_seed = Contains-push [] seed;
      links = links;
      walk = subst (λ (n : Addr). Walk g q entry n links) (sym at_node) f.walk;
      sum = omega (arith, at_cost);
      exit = refl;
      within = f.within;
    })
label_joins_at g q t seed at_node at_cost at_exit entry (Some a) is =
    let r = is.0 in
    let same : seed ≡ r.seed = elim (Contains-push_cases [] seed r.seed r.is_seed) [ inl nothing ↦ absurd (omega (arith, nothing.1)) | inr one ↦ one ] in
    let node : r.seed.node ≡ t = ap (λ (s : Seed). s.node) (sym same) ∙ at_node in
    record {
      links = r.links;
      least = subst (λ (n : Addr). IsLeast g q entry n r.links) node (least_to_seed g q (seed ∷ []) entry a is r);
      sum = omega (arith, r.sum, ap (λ (s : Seed). s.cost) same, at_cost);
      exit = r.exit ∙ ap (λ (s : Seed). s.exit) (sym same) ∙ at_exit;
    }
