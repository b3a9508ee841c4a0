-- Every script that is played is right.
use Rattle.std.proofs.Common.{ℕ, List, [], ◌≤◌, arith}
use Rattle.plant_play.specs.plant_model.Types.{NetworkParts}
use Rattle.plant_play.proofs.plant_model.WireLaws.{wire_is_codec}
use Rattle.plant_play.specs.plant_model.Laws.{IsNetwork}
use Rattle.plant_play.specs.plant_model.Plant.{Entry, Plant, Run}
use Rattle.plant_play.specs.plant_model.RealWire.{wire}
use Rattle.run_laws.specs.plant_laws.Headline.{LeastAnswersIn, NoneAnswersIn}
use Rattle.run_laws.proofs.plant_laws.WrittenForm.EveryWritten.{of_written_net_ids}
use Rattle.run_laws.proofs.plant_laws.Least.OfRun as OfRun
use Rattle.run_laws.proofs.plant_laws.Blind.SaysBlind.{says_as_blind}
use Rattle.run_laws.specs.Counting.{HasNoParent}
use Rattle.run_laws.proofs.OctetLemmas.FewOctets.{few_are_short}
use Rattle.plant_play.specs.Playing.{Cue, IsNewNetwork, PlayedNetwork}
use Rattle.plant_play.specs.Scripts.{AllPlayed}
use Rattle.plant_play.specs.Turns.{Turn, entries_of}
use Rattle.client_laws.specs.Headline.{HasIdsLeft, IsRight, all_octets}
use Rattle.client_laws.specs.Laws.{FeedOctets}
use Rattle.client_laws.proofs.DisclosedRuns.{runs_disclose}
use Rattle.client_laws.proofs.FedBytes.{script_fed}
use Rattle.client_laws.proofs.Loadable.{runs_are_loadable}
use Rattle.client_laws.proofs.Onward.{scripts_are_runs}

runs_are_right : (n : NetworkParts) → IsNetwork n → (es : List Entry) (s : Plant) → Run wire n es s → IsRight n es s
runs_are_right n ok es s run = record {
  run = run;
  least = of_written_net_ids LeastAnswersIn OfRun.least_answers_are wire wire_is_codec n ok es s run;
  none = of_written_net_ids NoneAnswersIn OfRun.none_answers_are wire wire_is_codec n ok es s run;
  traced = runs_disclose n es s run;
  closed = λ trace disclosed. says_as_blind wire n es trace s disclosed;
}

pub scripts_are_right : (n : NetworkParts) → IsNetwork n → (new end : PlayedNetwork) (cues : List Cue) (turns : List Turn) (told : List ℕ) → IsNewNetwork n new → FeedOctets cues → AllPlayed new cues turns told end
    → IsRight n (entries_of turns []) end.state × (HasNoParent n → all_octets cues ≤ 4294967295 → HasIdsLeft n (entries_of turns []))
scripts_are_right n ok new end cues turns told is octets all =
    let run = scripts_are_runs runs_are_loadable n new end cues turns told is octets all in (
      runs_are_right n ok (entries_of turns []) end.state run,
      λ alone few. few_are_short n ok alone (entries_of turns []) end.state run (omega (arith, few, script_fed new end cues turns told all [])),
    )
