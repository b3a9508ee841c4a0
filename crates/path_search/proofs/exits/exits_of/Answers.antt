use Rattle.std.proofs.Common.{List, sym, subst}
use Rattle.std.specs.Prelude.{All, Contains}
use Rattle.std.proofs.lemmas.List.Filters.{dedup_is}
use Rattle.dom_base.specs.declared.addr.Addr.{Addr}
use Rattle.dom_base.specs.declared.query.Seed.{Seed}
use Rattle.path_search.specs.Short.{DoRise}
use Rattle.path_search.proofs.ExitOrder.{same_addrs, rises_after, exits_kept}
use Rattle.path_search.proofs.exits.exits_of.Goals as goal

pub returns-clause-rise : goal.returns-clause-rise
returns-clause-rise c =
    let sorted = c.sort_unstable.new.self.items in
    let kept = dedup_is same_addrs sorted c.dedup.new.self.items c.dedup.ensures.filtered in
    subst DoRise (sym kept) (rises_after sorted c.sort_unstable.ensures.sorted)

pub returns-clause-whole : goal.returns-clause-whole
returns-clause-whole c =
    let sorted = c.sort_unstable.new.self.items in
    let kept = dedup_is same_addrs sorted c.dedup.new.self.items c.dedup.ensures.filtered in
    subst (λ (xs : List Addr). All (λ (s : Seed). Contains xs s.exit) c.args.seeds.now) (sym kept)
    (exits_kept c.args.seeds.now c.in_ok-exits.exits.items sorted c.in_ok-exits.ensures c.sort_unstable.ensures.permutation)
