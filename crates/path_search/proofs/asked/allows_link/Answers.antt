use Rattle.std.proofs.Common.{◌≡◌, true}
use Rattle.path_search.proofs.asked.allows_link.Goals as goal

pub returns-then-asked : goal.returns-then-asked
returns-then-asked c =
    let tested = c.if-asked.true in
    let free : c.args.asked.now.free ≡ true = cc in
    (λ _. c.requires free c.args.link.now, λ _. free)
