use Rattle.std.proofs.Common.{◌∙◌, Some, ap}
use Rattle.run_laws.proofs.TextLemmas.GivenRows.{blind_line_given}
use Rattle.blind_play.proofs.script.event_of.Goals as goal

pub returns-in-Ok-Some-clause-given : goal.returns-in-Ok-Some-clause-given
returns-in-Ok-Some-clause-given c = blind_line_given c.args.network.now c.args.text.now c.in-Ok-Some.event (c.in-Ok-Some.ensures ∙ ap Some c.in-Ok-Some.field-0-is)
