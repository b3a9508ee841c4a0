use Rattle.std.proofs.Common.{rules}
use Rattle.std.specs.Prelude.{string_bytes}
use Rattle.pce_tool.proofs.RouteLemmas.{sequence_if_different}
use Rattle.pce_tool.proofs.route.are_sequence.Goals as goal

pub returns-in-len1-up : goal.returns-in-len1-up
returns-in-len1-up c =
    sequence_if_different string_bytes c.args.words.now c.are_different.result c.in-len1-up.len_at_least (search rules) (search rules) c.are_different.ensures
