use Rattle.client_laws.proofs.Disclosing as Disclosing
use Rattle.client_laws.proofs.scripts.shown_is_disclosed.Goals as goal

pub returns : goal.returns
returns c = record {
  go_on = Disclosing.shown_is_disclosed;
  from_start = Disclosing.shown_from_the_first;
}
