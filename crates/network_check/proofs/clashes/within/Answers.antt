use Rattle.std.proofs.Common.{sym}
use Rattle.std.proofs.lemmas.List.{take-map}
use Rattle.toml.specs.View.{view}
use Rattle.network_check.proofs.clashes.within.Goals as goal

pub returns-else-rows-limit : goal.returns-else-rows-limit
returns-else-rows-limit c = sym (take-map view c.args.limit c.args.rows.now)
