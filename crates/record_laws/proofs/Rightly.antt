-- Every run is right.
use Rattle.plant_network.specs.plant_model.Laws.{IsNetwork}
use Rattle.plant_network.specs.plant_model.Plant.{Entry, Plant, Run}
use Rattle.plant_network.specs.plant_model.RealWire.{wire}
use Rattle.plant_network.proofs.plant_model.WireLaws.{wire_is_codec}
use Rattle.plant_text.specs.declared.settings.NetworkParts.{NetworkParts}
use Rattle.std.specs.Prelude.{List}
use Rattle.run_laws.specs.plant_laws.Headline.{LeastAnswersIn, NoneAnswersIn}
use Rattle.run_laws.proofs.plant_laws.WrittenForm.EveryWritten.{of_written_net_ids}
use Rattle.run_laws.proofs.plant_laws.Least.OfRun as OfRun
use Rattle.run_laws.proofs.plant_laws.Blind.SaysBlind.{says_as_blind}
use Rattle.client_laws.specs.Headline.{IsRight}
use Rattle.client_laws.proofs.DisclosedRuns.{runs_disclose}

pub runs_are_right : (n : NetworkParts) → IsNetwork n → (es : List Entry) (s : Plant) → Run wire n es s → IsRight n es s
runs_are_right n ok es s run = record {
  run = run;
  least = of_written_net_ids LeastAnswersIn OfRun.least_answers_are wire wire_is_codec n ok es s run;
  none = of_written_net_ids NoneAnswersIn OfRun.none_answers_are wire wire_is_codec n ok es s run;
  traced = runs_disclose n es s run;
  closed = λ trace disclosed. says_as_blind wire n es trace s disclosed;
}
