use Rattle.std.proofs.Common.{◌≡◌, ◌-◌, ℕ, length, take, drop, get_or, sym, subst}
use Rattle.std.specs.Prelude.{MatchOption}
use Rattle.std.proofs.lemmas.Bool.{eqb-true}
use Rattle.dom_base.proofs.Ranks.{same_addr}
use Rattle.dom_base.specs.AddrOrder.{rank}
use Rattle.dom_base.specs.declared.addr.Addr.TheVariants.{V4}
use Rattle.path_certificate.proofs.Beginning.{first_and_rest}
use Rattle.diverse_pairs.specs.Conditions.{ListHolds}
use Rattle.diverse_pairs.specs.Steps.{IsFirstNot}
use Rattle.diverse_pairs.proofs.Counting.{list_told}
use Rattle.diverse_pairs.proofs.false_path.false_place.Goals as goal

pub returns-in-len1-up-clause-first : goal.returns-in-len1-up-clause-first
returns-in-len1-up-clause-first c =
    let g = c.args.topology.now in
    let q = c.args.query.now in
    let used = c.args.used.now in
    let s = c.args.source in
    let t = c.args.target in
    let shown = c.args.shown.now in
    let start = get_or shown 0 (V4 0) in
    let fars = take (length shown - 1) (drop 1 shown) in
    let begins : start ≡ s = same_addr start s (eqb-true (rank start) (rank s) (sym c.if-eq.ensures)) in
    subst (λ xs. MatchOption c.false_step.result ((k : ℕ) → ListHolds g q used s t xs k) (IsFirstNot (ListHolds g q used s t xs)))
    (sym (first_and_rest shown (V4 0) c.in-len1-up.len_at_least)) (list_told g q used s t start fars c.false_step.result begins c.false_step.ensures.first)
