use Rattle.std.proofs.Common.{refl, sym, subst}
use Rattle.std.specs.Prelude.{MatchOption}
use Rattle.pce_common.specs.plant_model.Types.{Target}
use Rattle.pce_common.specs.plant_model.Branches.{downs}
use Rattle.pce_element.specs.Joining.{JoinsNothing, JoinsOver}
use Rattle.pce_element.proofs.JoinLemmas.{next_nowhere, next_within, node_within}
use Rattle.pce_element.proofs.joining.joined_cost.Goals as goal

pub returns-in-Node : goal.returns-in-Node
returns-in-Node c =
    let r = c.args.row.now in
    let down = downs c.args.down.now in
    subst (λ (t : Target). MatchOption c.within.result (JoinsNothing c.args.cap t down r) (JoinsOver c.args.cap t down r)) (sym c.in-Node.is)
    (node_within c.args.cap c.in-Node._end down r c.get.result c.within.result c.get.ensures.number c.within.ensures)

pub returns-in_default : goal.returns-in_default
returns-in_default c =
    let r = c.args.row.now in
    let down = downs c.args.down.now in
    subst (λ (t : Target). JoinsNothing c.args.cap t down r) (sym c.in-Next.is) (next_nowhere c.args.cap c.in-Next._next down r c.in_default.ensures)

pub returns-in-Some : goal.returns-in-Some
returns-in-Some c =
    let r = c.args.row.now in
    let down = downs c.args.down.now in
    subst (λ (t : Target). MatchOption c.sum_within.result (JoinsNothing c.args.cap t down r) (JoinsOver c.args.cap t down r)) (sym c.in-Next.is)
    (next_within c.args.cap c.in-Next._next down r c.get-in-Next.result c.in-Some.rest c.in-Some.rest c.sum_within.result c.get-in-Next.ensures.number refl c.in-Some.ensures c.sum_within.ensures)
