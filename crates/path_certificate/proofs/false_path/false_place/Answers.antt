use Rattle.std.proofs.Common.{◌≡◌, ◌<◌, ◌-◌, ◌∙◌, ◌∷◌, ℕ, List, length, take, drop, get_or, Some, sym, ap, subst}
use Rattle.std.specs.Prelude.{MatchOption}
use Rattle.std.specs.declared.option.Option.{Option}
use Rattle.std.proofs.lemmas.Bool.{eqb-true}
use Rattle.dom_base.proofs.Ranks.{same_addr}
use Rattle.dom_base.specs.AddrOrder.{rank}
use Rattle.dom_base.specs.declared.addr.Addr.{Addr}
use Rattle.dom_base.specs.declared.addr.Addr.TheVariants.{V4}
use Rattle.path_certificate.specs.Rows.{label_in}
use Rattle.path_certificate.specs.Claims.{PathHoldsAt}
use Rattle.path_certificate.proofs.Beginning.{first_and_rest, path_told}
use Rattle.path_certificate.proofs.false_path.false_place.Goals as goal

pub returns-in-len1-up : goal.returns-in-len1-up
returns-in-len1-up c =
    let g = c.args.topology.now in
    let q = c.args.query.now in
    let seeds = c.args.seeds.now in
    let label = label_in c.args.rows.now in
    let source = c.args.source in
    let addrs = c.as_slice.result.now in
    let first = get_or addrs 0 (V4 0) in
    let fars = take (length addrs - 1) (drop 1 addrs) in
    let begins : first ≡ source = same_addr first source (eqb-true (rank first) (rank source) (sym c.if-eq.ensures)) in
    let path : c.args.path.now ≡ Some (first ∷ fars) =
    c.in-Some.is ∙ ap (λ (xs : List Addr). Some xs) (sym c.as_slice.ensures ∙ first_and_rest addrs (V4 0) c.in-len1-up.len_at_least) in
    subst (λ (p : Option (List Addr)). MatchOption c.false_step.result ((k : ℕ) → PathHoldsAt g q seeds label source p k)
    (λ k. (¬ PathHoldsAt g q seeds label source p k) × ((j : ℕ) → j < k → PathHoldsAt g q seeds label source p j)))
    (sym path)
    (path_told g q seeds label source first fars c.in-Some-told.label c.false_step.result (sym c.in-Some-told.ensures) begins c.false_step.ensures)
