use Rattle.std.proofs.Common.{◌≡◌, ◌⊎◌, ℕ, true, false, List, refl, sym, subst}
use Rattle.std.specs.Prelude.{◌↔◌, Contains}
use Rattle.std.specs.BTreeSet.{contains}
use Rattle.std.specs.Ordering.{nat_cmp}
use Rattle.dom_base.specs.declared.addr.Addr.{Addr}
use Rattle.path_constraints.specs.Spans.{Covers}
use Rattle.path_constraints.proofs.Tabled.{interface_bars, risk_decides}
use Rattle.path_constraints.proofs.prepared.Prepared.names_link.Goals as goal

pub returns-then-begins_or_ends : goal.returns-then-begins_or_ends
returns-then-begins_or_ends c =
    let held = c.self.inside in
    let l = c.args.link.now in (
      λ _. interface_bars c.args.self.now held.query.now held.links.items held.nodes.items held.risks held.domain c.self.view_is c.self.invariant l
          (subst (λ (spans : List (Addr × Addr)). Covers spans l.near ⊎ Covers spans l.far) c.as_slice.ensures.value (c.if-begins_or_ends.ensures.0 refl)),
      λ _. c.if-begins_or_ends.true,
    )

pub returns-else-begins_or_ends : goal.returns-else-begins_or_ends
returns-else-begins_or_ends c =
    let held = c.self.inside in
    let l = c.args.link.now in
    risk_decides c.args.self.now held.query.now held.links.items held.nodes.items held.risks held.domain c.self.view_is c.self.invariant l c.has_risk.result
    (λ either. let bad : false ≡ true = c.if-begins_or_ends.ensures.1 (subst (λ (spans : List (Addr × Addr)). Covers spans l.near ⊎ Covers spans l.far) (sym c.as_slice.ensures.value) either) in cc)
    (subst (λ (srlgs : List ℕ). (c.has_risk.result ≡ true) ↔ ((n : ℕ) × (contains nat_cmp held.risks n ≡ true) × Contains srlgs n)) c.as_slice-else-begins_or_ends.ensures c.has_risk.ensures)
