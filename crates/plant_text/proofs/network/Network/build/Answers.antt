use Rattle.plant_text.specs.Rules.{rules_of}
use Rattle.plant_text.proofs.RuleLaws.{obeyed_if, refused_if}
use Rattle.plant_text.proofs.network.Network.build.Goals as goal

pub returns-clause-obeyed : goal.returns-clause-obeyed
returns-clause-obeyed c = obeyed_if (rules_of c.args.parts) c.of_sheet.result (rw c.of.ensures at c.of_sheet.ensures.tells)

pub returns-clause-refused : goal.returns-clause-refused
returns-clause-refused c = refused_if (rules_of c.args.parts) c.of_sheet.result (rw c.of.ensures at c.of_sheet.ensures.tells)
