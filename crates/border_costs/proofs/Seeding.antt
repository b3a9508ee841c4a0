-- The seeds of the out links, one link after the other.
use Rattle.std.proofs.Common.{◌≡◌, inl, inr, ℕ, ◌+◌, ◌<◌, ◌≤◌, List, [], ◌∷◌, ◌++◌, length, arith, sym, ◌∙◌, ap, subst, Some}
use Rattle.std.specs.Prelude.{Contains, slice_get}
use Rattle.std.proofs.lemmas.Bool.{cases_lt}
use Rattle.std.proofs.lemmas.List.{length_push}
use Rattle.std.proofs.lemmas.Option.{slice_get-get_or}
use Rattle.std.proofs.lemmas.List.Elements.{Contains-append_left, Contains-push, Contains-push_cases}
use Rattle.dom_base.specs.declared.addr.Addr.{Addr}
use Rattle.dom_base.specs.declared.names.As.{As}
use Rattle.dom_base.specs.declared.query.Query.{Query}
use Rattle.dom_base.specs.declared.query.Seed.{Seed}
use Rattle.te_links.specs.declared.rows.OutLink.{OutLink}
use Rattle.te_links.specs.Rows.{Rows}
use Rattle.walk_laws.specs.Borders.{IsBorderSeed, AreBorderSeeds}
use Rattle.border_costs.specs.declared.job.Down.{Down}
use Rattle.border_costs.specs.Asks.{beyond, IsSeedAt, IsNoSeedAt}
use Rattle.border_costs.proofs.Downs.{down_unique}

-- an out link has one seed
seed_unique : (g : Rows) (q : Query) (next : As) (down : List Down) (o : OutLink) (s r : Seed) →
    IsBorderSeed g q next (beyond down) o s → IsBorderSeed g q next (beyond down) o r → s ≡ r
seed_unique g q next down o s r one other =
    let make : Addr → ℕ → Addr → Seed = λ n c e. record { node = n; cost = c; exit = e } in
    let same : one.beyond ≡ other.beyond = down_unique (beyond down) o.link.to one.beyond other.beyond one.is_down other.is_down in
    let costs : s.cost ≡ r.cost = omega (arith, one.sum, other.sum, same) in
    ap (λ n. make n s.cost s.exit) (one.node ∙ sym other.node) ∙ ap (λ c. make r.node c s.exit) costs ∙ ap (λ e. make r.node r.cost e) (one.exit ∙ sym other.exit)

-- what stands after the first i out links
pub record AreSeedsUpTo (g : Rows) (q : Query) (next : As) (down : List Down) (i : ℕ) (seeds : List Seed) : Type 0 where
  pub each : (s : Seed) → Contains seeds s → (o : OutLink) × IsBorderSeed g q next (beyond down) o s
  pub every : (k : ℕ) (o : OutLink) (s : Seed) → k < i → slice_get g.outs k ≡ Some o → IsBorderSeed g q next (beyond down) o s → Contains seeds s
  pub few : length seeds ≤ i

module _ (g : Rows) (q : Query) (next : As) (down : List Down) where
  pub no_seeds : AreSeedsUpTo g q next down 0 []
  no_seeds = record {
    each = λ s has. absurd (omega (arith, has.1));
    every = λ k o s below at is. absurd (omega (arith, below));
    few = omega arith;
  }

  pub seed_added : (i : ℕ) (seeds : List Seed) (s : Seed) → AreSeedsUpTo g q next down i seeds → IsSeedAt g q next down i s → AreSeedsUpTo g q next down (i + 1) (seeds ++ s ∷ [])
  seed_added i seeds s are new = record {
    each = λ r has.
        elim (Contains-push_cases seeds s r has) [
          | inl before ↦ are.each r before
          | inr is ↦ (new.out, subst (IsBorderSeed g q next (beyond down) new.out) is new.is_seed)
        ];
    every = λ k o r below at is.
        elim (cases_lt k i) [
          | inl before ↦ Contains-append_left seeds (s ∷ []) r (are.every k o r before at is)
          | inr past ↦
              let here : k ≡ i = omega (arith, past, below) in
              let both : Some o ≡ Some new.out = sym at ∙ ap (slice_get g.outs) here ∙ new.at in
              let out : o ≡ new.out = cc in
              let r_is : IsBorderSeed g q next (beyond down) new.out r = subst (λ (p : OutLink). IsBorderSeed g q next (beyond down) p r) out is in
              subst (Contains (seeds ++ s ∷ [])) (seed_unique g q next down new.out s r new.is_seed r_is) (Contains-push seeds s)
        ];
    few = omega (arith, are.few, length_push seeds s);
  }

  pub seed_left : (i : ℕ) (seeds : List Seed) → AreSeedsUpTo g q next down i seeds → IsNoSeedAt g q next down i → AreSeedsUpTo g q next down (i + 1) seeds
  seed_left i seeds are none = record {
    each = are.each;
    every = λ k o r below at is.
        elim (cases_lt k i) [
          | inl before ↦ are.every k o r before at is
          | inr past ↦
              let here : k ≡ i = omega (arith, past, below) in
              absurd (none o r (sym (ap (slice_get g.outs) here) ∙ at) is)
        ];
    few = omega (arith, are.few);
  }

  pub all_seeds : (i : ℕ) (seeds : List Seed) → AreSeedsUpTo g q next down i seeds → length g.outs ≤ i → AreBorderSeeds g q next (beyond down) seeds
  all_seeds i seeds are whole = record {
    each = are.each;
    every = λ o s is.
        let has = is.out.is_out in
        are.every has.0 o s (omega (arith, has.1, whole)) (slice_get-get_or g.outs has.0 o has.1 ∙ ap Some has.2) is;
  }
