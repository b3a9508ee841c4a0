-- A label that no seed equals is made by a tight link.
use Rattle.std.proofs.Common.{◌≡◌, ◌⊎◌, inl, inr, ℕ, ◌+◌, List, [], ◌∷◌, arith, refl, sym, ◌∙◌, ap, subst, None, Some}
use Rattle.std.specs.Prelude.{Contains}
use Rattle.std.specs.declared.option.Option.{Option}
use Rattle.std.proofs.lemmas.Bool.{cases_lt}
use Rattle.dom_base.specs.AddrOrder.{rank}
use Rattle.dom_base.proofs.Ranks.{same_addr}
use Rattle.dom_base.specs.declared.addr.Addr.{Addr}
use Rattle.dom_base.specs.declared.link.Link.{Link}
use Rattle.dom_base.specs.declared.query.Query.{Query}
use Rattle.dom_base.specs.declared.query.Seed.{Seed}
use Rattle.dom_base.specs.declared.query.Label.{Label}
use Rattle.dom_base.specs.Admission.{weight}
use Rattle.te_links.specs.Rows.{Rows}
use Rattle.walk_laws.specs.Walks.{AdmitsLink, Walk, cost}
use Rattle.walk_laws.specs.Labels.{◌≼◌, Reaches, IsLabel, EndsAt, IsTight}
use Rattle.walk_laws.specs.Certificate.{before}

pub same_label : (a b : Label) → a.cost ≡ b.cost → a.exit ≡ b.exit → a ≡ b
same_label a b costs exits =
    let make : ℕ → Addr → Label = λ n e. record { cost = n; exit = e } in
    ap (λ n. make n a.exit) costs ∙ ap (λ e. make b.cost e) exits

pub le_antisym : (a b : Label) → a ≼ b → b ≼ a → a ≡ b
le_antisym a b (inl lt) (inl lt') = absurd (omega arith)
le_antisym a b (inl lt) (inr le') = absurd (omega (arith, lt, le'.0))
le_antisym a b (inr le) (inl lt') = absurd (omega (arith, lt', le.0))
le_antisym a b (inr le) (inr le') = same_label a b le.0 (same_addr a.exit b.exit (omega (arith, le.1, le'.1)))

-- a node has one label
pub label_unique : (g : Rows) (q : Query) (seeds : List Seed) (u : Addr) (o : Option Label) (a : Label) →
    IsLabel g q seeds u o → IsLabel g q seeds u (Some a) → o ≡ Some a
label_unique g q seeds u None a is isa = absurd (is a isa.0)
label_unique g q seeds u (Some b) a is isa = ap (λ (c : Label). Some c) (le_antisym b a (is.1 a isa.0) (isa.1 b is.0))

-- the rest of a least walk is least
rest_least : (g : Rows) (q : Query) (seeds : List Seed) (u : Addr) (a r : Label) (l : Link) → IsLabel g q seeds u (Some a) → l.from ≡ u → AdmitsLink g q l →
    a.cost ≡ weight q.metric l + r.cost → a.exit ≡ r.exit → (c : Label) → Reaches g q seeds l.to c → r ≼ c
rest_least g q seeds u a r l is from admitted sum exit c reach =
    elim (cases_lt q.cap (weight q.metric l + c.cost)) [
      | inl over ↦ inl (omega (arith, over, sum, is.0.within))
      | inr within ↦
          let there : Reaches g q seeds u (before q l c) = record {
            seed = reach.seed;
            is_seed = reach.is_seed;
            links = l ∷ reach.links;
            walk = (from, admitted, reach.walk);
            sum = omega (arith, reach.sum);
            exit = reach.exit;
            within = within;
          } in
          cancel (is.1 (before q l c) there)
    ]
  where
    cancel : a ≼ before q l c → r ≼ c
    cancel (inl lt) = inl (omega (arith, lt, sum))
    cancel (inr le) = inr (omega (arith, le.0, sum), omega (arith, le.1, ap rank exit))

pub tight_or_end : (g : Rows) (q : Query) (seeds : List Seed) (u : Addr) (a : Label) → IsLabel g q seeds u (Some a) →
    EndsAt seeds u a ⊎ ((l : Link) × (r : Label) × (l.from ≡ u) × IsTight g q seeds l a r)
tight_or_end g q seeds u a is = go is.0.links is.0.walk is.0.sum
  where
    go : (ls : List Link) → Walk g q u is.0.seed.node ls → a.cost ≡ cost q ls + is.0.seed.cost →
        EndsAt seeds u a ⊎ ((l : Link) × (r : Label) × (l.from ≡ u) × IsTight g q seeds l a r)
    go [] walk sum =
        let s = is.0.seed in
        let make : Addr → ℕ → Addr → Seed = λ n k e. record { node = n; cost = k; exit = e } in
        let costs : s.cost ≡ a.cost = omega (arith, sum) in
        let same : s ≡ make u a.cost a.exit =
        ap (λ n. make n s.cost s.exit) (sym walk.0) ∙ ap (λ k. make u k s.exit) costs ∙ ap (λ e. make u a.cost e) (sym is.0.exit) in
        inl (subst (Contains seeds) same is.0.is_seed)
    go (l ∷ ls) walk sum =
        let r : Label = record { cost = cost q ls + is.0.seed.cost; exit = a.exit } in
        let whole : a.cost ≡ weight q.metric l + r.cost = omega (arith, sum) in
        let reach : Reaches g q seeds l.to r = record {
          seed = is.0.seed;
          is_seed = is.0.is_seed;
          links = ls;
          walk = walk.2;
          sum = refl;
          exit = is.0.exit;
          within = omega (arith, whole, is.0.within);
        } in
        inr (
          l,
          r,
          walk.0,
          record {
            admitted = walk.1;
            at_end = (reach, rest_least g q seeds u a r l is walk.0 walk.1 whole refl);
            sum = whole;
            exit = refl;
          },
        )
