use Rattle.std.proofs.Common.{ℕ, Option, IfOk, sym, subst}
use Rattle.plant_network.specs.Topologies.{whole}
use Rattle.plant_play.specs.Making.{DoesLine, playing}
use Rattle.plant_play.specs.Playing.{PlaysFeedAt}
use Rattle.plant_play.proofs.lines.feed_named.Goals as goal

pub returns-in-Some-clause-plays : goal.returns-in-Some-clause-plays
returns-in-Some-clause-plays c =
    let old = whole c.args.plant.now in
    subst (λ (i : Option ℕ). IfOk c.feed.result (DoesLine old (PlaysFeedAt c.args.line (playing c.args.modes old) i c.args.bytes) (whole c.feed.new.plant) c.args.into.now c.feed.new.into)) (sym c.in-Some.is)
    c.feed.ensures.plays
