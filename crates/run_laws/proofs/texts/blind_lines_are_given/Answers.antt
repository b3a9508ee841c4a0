use Rattle.run_laws.proofs.TextLemmas.GivenRows.{blind_line_given}
use Rattle.run_laws.proofs.texts.blind_lines_are_given.Goals as goal

pub returns : goal.returns
returns c = λ n text e is. blind_line_given n text e is
