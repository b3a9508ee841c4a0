use Rattle.toml.specs.View.{table_view}
use Rattle.plant_text.proofs.DocumentLaws.{reads_if, fault_if}
use Rattle.plant_text.proofs.document.read_network.Goals as goal

pub returns-clause-ok : goal.returns-clause-ok
returns-clause-ok c = reads_if c.args.bytes.now (table_view c.in_ok-root.root) c.in_ok-sheet.sheet c.of_sheet.result c.in_ok-root.ensures c.in_ok-sheet.ensures c.of_sheet.ensures.same c.of_sheet.ensures.tells

pub returns-clause-refused : goal.returns-clause-refused
returns-clause-refused c = fault_if c.args.bytes.now (table_view c.in_ok-root.root) c.in_ok-sheet.sheet c.of_sheet.result c.in_ok-root.ensures c.in_ok-sheet.ensures c.of_sheet.ensures.tells
