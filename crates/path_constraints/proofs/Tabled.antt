-- What the tables of exclusions tell of links and nodes.
use Rattle.std.proofs.Common.{◌≡◌, ◌⊎◌, ℕ, Bool, true, List, length, inl, inr, refl, sym, subst, arith}
use Rattle.std.specs.Prelude.{◌↔◌, Contains}
use Rattle.std.specs.BTreeSet.{BTreeSet, contains}
use Rattle.std.specs.Ordering.{nat_cmp}
use Rattle.dom_base.specs.declared.addr.Addr.{Addr}
use Rattle.dom_base.specs.declared.link.Link.{Link}
use Rattle.dom_base.specs.declared.names.As.{As}
use Rattle.dom_base.specs.declared.query.Query.{Query}
use Rattle.dom_base.specs.declared.query.Excluded.{Excluded}
use Rattle.dom_base.specs.declared.query.Excluded.TheVariants.{Prefix, AsNumber, Srlg, Other}
use Rattle.dom_base.specs.Admission.{LiesIn, NamesLink, NamesNode, BarsLink, BarsNode}
use Rattle.path_constraints.specs.Spans.{Covers}
use Rattle.path_constraints.specs.Tables.{NamesAddr, NamesRisk, NamesDomain, AreTables}

-- ---- one exclusion

-- a link is named by one of its interfaces, or by a shared risk
abbrev NamedBy : Link → Excluded → Type 0
NamedBy l e = NamesAddr 0 l.near e ⊎ (NamesAddr 0 l.far e ⊎ ((n : ℕ) × NamesRisk n e × Contains l.srlgs n))

named_by : (l : Link) (e : Excluded) → NamesLink e l → NamedBy l e
named_by l (Prefix addr len kind) names = go names.1
  where
    go : LiesIn l.near addr len ⊎ LiesIn l.far addr len → NamedBy l (Prefix addr len kind)
    go (inl near) = inl (names.0, near)
    go (inr far) = inr (inl (names.0, far))
named_by l (Srlg number) names = inr (inr (number, refl, names))
named_by l (AsNumber number) names = absurd names
named_by l (Other kind body) names = absurd names

near_named : (l : Link) (e : Excluded) → NamesAddr 0 l.near e → NamesLink e l
near_named l (Prefix addr len kind) names = (names.0, inl names.1)
near_named l (Srlg number) names = absurd names
near_named l (AsNumber number) names = absurd names
near_named l (Other kind body) names = absurd names

far_named : (l : Link) (e : Excluded) → NamesAddr 0 l.far e → NamesLink e l
far_named l (Prefix addr len kind) names = (names.0, inr names.1)
far_named l (Srlg number) names = absurd names
far_named l (AsNumber number) names = absurd names
far_named l (Other kind body) names = absurd names

risk_named : (l : Link) (n : ℕ) (e : Excluded) → NamesRisk n e → Contains l.srlgs n → NamesLink e l
risk_named l n (Srlg number) names has = subst (Contains l.srlgs) (sym names) has
risk_named l n (Prefix addr len kind) names has = absurd names
risk_named l n (AsNumber number) names has = absurd names
risk_named l n (Other kind body) names has = absurd names

node_by : (own : As) (a : Addr) (e : Excluded) → NamesNode e own a → NamesDomain own e ⊎ NamesAddr 1 a e
node_by own a (Prefix addr len kind) names = inr names
node_by own a (AsNumber number) names = inl names
node_by own a (Srlg number) names = absurd names
node_by own a (Other kind body) names = absurd names

domain_named : (own : As) (a : Addr) (e : Excluded) → NamesDomain own e → NamesNode e own a
domain_named own a (Prefix addr len kind) names = absurd names
domain_named own a (AsNumber number) names = names
domain_named own a (Srlg number) names = absurd names
domain_named own a (Other kind body) names = absurd names

addr_named : (own : As) (a : Addr) (e : Excluded) → NamesAddr 1 a e → NamesNode e own a
addr_named own a (Prefix addr len kind) names = names
addr_named own a (AsNumber number) names = absurd names
addr_named own a (Srlg number) names = absurd names
addr_named own a (Other kind body) names = absurd names

-- ---- all exclusions

module _ (q : Query) (links nodes : List (Addr × Addr)) (risks : BTreeSet ℕ) (domain : Bool) (are : AreTables q links nodes risks domain) where
  abbrev pub HasRisk : Link → Type 0
  HasRisk l = (n : ℕ) × (contains nat_cmp risks n ≡ true) × Contains l.srlgs n

  pub link_tabled : (l : Link) → BarsLink q l → Covers links l.near ⊎ (Covers links l.far ⊎ HasRisk l)
  link_tabled l bars = go (named_by l bars.row.what bars.names)
    where
      go : NamedBy l bars.row.what → Covers links l.near ⊎ (Covers links l.far ⊎ HasRisk l)
      go (inl near) = inl ((are.of_links l.near).1 (bars.row, bars.is_row, (bars.strict, near)))
      go (inr (inl far)) = inr (inl ((are.of_links l.far).1 (bars.row, bars.is_row, (bars.strict, far))))
      go (inr (inr risk)) = inr (inr (risk.0, (are.of_risks risk.0).1 (bars.row, bars.is_row, (bars.strict, risk.1)), risk.2))

  pub near_bars : (l : Link) → Covers links l.near → BarsLink q l
  near_bars l has = let some = (are.of_links l.near).0 has in record { row = some.0; is_row = some.1; strict = some.2.0; names = near_named l some.0.what some.2.1 }

  pub far_bars : (l : Link) → Covers links l.far → BarsLink q l
  far_bars l has = let some = (are.of_links l.far).0 has in record { row = some.0; is_row = some.1; strict = some.2.0; names = far_named l some.0.what some.2.1 }

  pub risk_bars : (l : Link) → HasRisk l → BarsLink q l
  risk_bars l has = let some = (are.of_risks has.0).0 has.1 in record { row = some.0; is_row = some.1; strict = some.2.0; names = risk_named l has.0 some.0.what some.2.1 has.2 }

  pub node_tabled : (a : Addr) → BarsNode q a → (domain ≡ true) ⊎ Covers nodes a
  node_tabled a bars = go (node_by q.own a bars.row.what bars.names)
    where
      go : NamesDomain q.own bars.row.what ⊎ NamesAddr 1 a bars.row.what → (domain ≡ true) ⊎ Covers nodes a
      go (inl own) = inl (are.of_domain.1 (bars.row, bars.is_row, (bars.strict, own)))
      go (inr here) = inr ((are.of_nodes a).1 (bars.row, bars.is_row, (bars.strict, here)))

  pub domain_bars : (a : Addr) → domain ≡ true → BarsNode q a
  domain_bars a is = let some = are.of_domain.0 is in record { row = some.0; is_row = some.1; strict = some.2.0; names = domain_named q.own a some.0.what some.2.1 }

  pub node_bars : (a : Addr) → Covers nodes a → BarsNode q a
  node_bars a has = let some = (are.of_nodes a).0 has in record { row = some.0; is_row = some.1; strict = some.2.0; names = addr_named q.own a some.0.what some.2.1 }

-- where nothing is excluded, no link is barred
pub none_bars : (q : Query) (l : Link) → length q.exclusions ≡ 0 → BarsLink q l → ⊥
none_bars q l none bars = omega (arith, none, bars.is_row.1)

-- ---- the tests of a link, for a query that is the one of the tables

module _ (q held : Query) (links nodes : List (Addr × Addr)) (risks : BTreeSet ℕ) (domain : Bool) (same : held ≡ q) (are : AreTables held links nodes risks domain) (l : Link) where
  pub interface_bars : Covers links l.near ⊎ Covers links l.far → BarsLink q l
  interface_bars (inl near) = subst (λ (r : Query). BarsLink r l) same (near_bars held links nodes risks domain are l near)
  interface_bars (inr far) = subst (λ (r : Query). BarsLink r l) same (far_bars held links nodes risks domain are l far)

  pub risk_decides : (b : Bool) → (Covers links l.near ⊎ Covers links l.far → ⊥) → (b ≡ true) ↔ ((n : ℕ) × (contains nat_cmp risks n ≡ true) × Contains l.srlgs n) → (b ≡ true) ↔ BarsLink q l
  risk_decides b none tells = (
    λ is. subst (λ (r : Query). BarsLink r l) same (risk_bars held links nodes risks domain are l (tells.0 is)),
    λ bars. elim (link_tabled held links nodes risks domain are l (subst (λ (r : Query). BarsLink r l) (sym same) bars)) [
      | inl near ↦ absurd (none (inl near))
      | inr (inl far) ↦ absurd (none (inr far))
      | inr (inr risk) ↦ tells.1 risk
    ],
  )
