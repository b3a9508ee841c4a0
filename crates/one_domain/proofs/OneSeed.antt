-- With one seed, the target, a label is the least cost of a walk to it, and the chosen segment is such a walk.
use Rattle.std.proofs.Common.{ℕ, subst, ◌≡◌, inl, inr, ◌≤◌, List, [], ◌∷◌, arith, refl, sym, ◌∙◌, ap, Some}
use Rattle.std.specs.Prelude.{Contains, slice_index_or}
use Rattle.dom_base.specs.declared.addr.Addr.{Addr}
use Rattle.dom_base.specs.declared.link.Link.{Link}
use Rattle.dom_base.specs.declared.query.Query.{Query}
use Rattle.dom_base.specs.declared.query.Seed.{Seed}
use Rattle.dom_base.specs.declared.query.Label.{Label}
use Rattle.te_links.specs.Rows.{Rows}
use Rattle.walk_laws.specs.Walks.{Walk, cost, IsFeasible, IsLeast}
use Rattle.std.proofs.lemmas.Bool.{cases_lt}
use Rattle.dom_base.specs.AddrOrder.{rank}
use Rattle.walk_laws.specs.Borders.{JoinsAt}
use Rattle.walk_laws.proofs.Admitted.{walk_admits}
use Rattle.one_domain.specs.Domain.{target_seeds}
use Rattle.walk_laws.specs.Labels.{◌≼◌, Reaches, IsLabel, IsSegment}

abbrev pub seed_at : Addr → Seed
seed_at t = record { node = t; cost = 0; exit = t }

pub the_seed : (t : Addr) (s : Seed) → Contains (target_seeds t) s → s ≡ seed_at t
the_seed t s (k, below, is) =
    let first : k ≡ 0 = omega arith in
    sym is ∙ ap (λ n. slice_index_or (target_seeds t) n s) first

-- the chosen segment is a walk to the target, of the label's cost
pub segment_walks : (g : Rows) (q : Query) (t u : Addr) (a : Label) (ls : List Link) → IsLabel g q (target_seeds t) u (Some a) → IsSegment g q (target_seeds t) u a ls →
    Walk g q u t ls × (a.cost ≡ cost q ls)
segment_walks g q t u a [] is segment =
    let same = the_seed t (record { node = u; cost = a.cost; exit = a.exit }) segment in
    ((ap (λ (s : Seed). s.node) same, walk_admits g q u is.0.seed.node is.0.links is.0.walk), ap (λ (s : Seed). s.cost) same)
segment_walks g q t u a (l ∷ ls) is segment =
    let rest = segment.1.0 in
    let chosen = segment.1.1 in
    let r = segment_walks g q t l.to rest ls chosen.tight.at_end segment.1.2 in
    ((chosen.from, chosen.tight.admitted, r.0), omega (arith, chosen.tight.sum, r.1))

-- a feasible walk to the target reaches its seed
pub reaching : (g : Rows) (q : Query) (t u : Addr) (ls : List Link) → IsFeasible g q u t ls → Reaches g q (target_seeds t) u (record { cost = cost q ls; exit = t })
reaching g q t u ls f = record {
  seed = seed_at t;
  is_seed = (0, omega arith, refl);
  links = ls;
  walk = f.walk;
  sum = omega arith;
  exit = refl;
  within = f.within;
}

pub segment_least : (g : Rows) (q : Query) (t u : Addr) (a : Label) (ls : List Link) → IsLabel g q (target_seeds t) u (Some a) → IsSegment g q (target_seeds t) u a ls →
    IsLeast g q u t ls × (a.cost ≡ cost q ls)
segment_least g q t u a ls is segment =
    let w = segment_walks g q t u a ls is segment in (
      record {
        feasible = record { walk = w.0; within = omega (arith, w.1, is.0.within) };
        least = λ other f. bound other (is.1 (record { cost = cost q other; exit = t }) (reaching g q t u other f)) w.1;
      },
      w.1,
    )
  where
    bound : (other : List Link) → a ≼ record { cost = cost q other; exit = t } → a.cost ≡ cost q ls → cost q ls ≤ cost q other
    bound other (inl lt) same = omega (arith, lt, same)
    bound other (inr le) same = omega (arith, le.0, same)

-- a least walk to the target gives its label
bounded : (g : Rows) (q : Query) (t u : Addr) (a : Label) → JoinsAt g q t u a → (b : Label) → Reaches g q (target_seeds t) u b → a ≼ b
bounded g q t u a joins b r =
    let same = the_seed t r.seed r.is_seed in
    let walk : Walk g q u t r.links = subst (λ (d : Seed). Walk g q u d.node r.links) same r.walk in
    let free : r.seed.cost ≡ 0 = ap (λ (d : Seed). d.cost) same in
    let exit : b.exit ≡ a.exit = r.exit ∙ ap (λ (d : Seed). d.exit) same ∙ sym joins.exit in
    let feasible : IsFeasible g q u t r.links = record { walk = walk; within = omega (arith, r.within, r.sum, free) } in
    let most : a.cost ≤ b.cost = omega (arith, joins.sum, joins.least.least r.links feasible, r.sum, free) in
    elim (cases_lt a.cost b.cost) [
      | inl less ↦ inl less
      | inr no_less ↦ inr (omega arith, omega (arith, ap rank exit))
    ]

pub joins_label : (g : Rows) (q : Query) (t u : Addr) (a : Label) → JoinsAt g q t u a → IsLabel g q (target_seeds t) u (Some a)
joins_label g q t u a joins =
    let make : ℕ → Addr → Label = λ n e. record { cost = n; exit = e } in
    let here : Reaches g q (target_seeds t) u (make (cost q joins.links) t) = reaching g q t u joins.links joins.least.feasible in
    let costs : Reaches g q (target_seeds t) u (make a.cost t) = subst (λ n. Reaches g q (target_seeds t) u (make n t)) (sym joins.sum) here in
    (subst (λ e. Reaches g q (target_seeds t) u (make a.cost e)) (sym joins.exit) costs, bounded g q t u a joins)
