use Rattle.std.proofs.Common.{inl}
use Rattle.pce_tool.proofs.PairReplies.{chosen_answers, none_within, path_again}
use Rattle.pce_tool.proofs.commands.pair.paths_answers.Goals as goal

pub no_pair-requires : goal.no_pair-requires
no_pair-requires c =
    none_within c.args.topology.now c.args.wanted.now c.args.first.now c.args.second.now c.path_cost-first_cost.result c.path_cost-second_cost.result c.requires.chosen
    c.path_cost-first_cost.ensures.cost c.path_cost-second_cost.ensures.cost c.in_default.ensures

pub returns-clause-answers : goal.returns-clause-answers
returns-clause-answers c =
    let is = c.in-Some.ensures in
    inl (chosen_answers c.args.topology.now c.args.wanted.now c.args.first.now c.args.second.now c.path_cost-first_cost.result c.path_cost-second_cost.result c.in_ok-one.one c.in_ok-other.other
    c.requires.chosen c.path_cost-first_cost.ensures.cost c.path_cost-second_cost.ensures.cost is.within
    (path_again c.args.wanted.now c.args.first.now c.in-Some.costs.one c.path_cost-first_cost.result c.in_ok-one.one is.same_one c.in_ok-one.ensures.answer)
    (path_again c.args.wanted.now c.args.second.now c.in-Some.costs.other c.path_cost-second_cost.result c.in_ok-other.other is.same_other c.in_ok-other.ensures.answer))
