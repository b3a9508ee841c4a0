-- What is told of lines on a network without topologies is what closed peers hear of a run with topologies that discloses their events.
use Rattle.std.proofs.Common.{ℕ, List, [], ◌++◌}
use Rattle.std.specs.declared.option.Option.{Option}
use Rattle.dom_edge.specs.Stores.{Files}
use Rattle.client_laws.proofs.run_laws.TextLemmas.ModelledNetworks.{settings_are_modelled}
use Rattle.client_laws.specs.plant_model.Blind.{blind_opened, heard}
use Rattle.client_laws.specs.plant_model.Plant.{deeds_of}
use Rattle.client_laws.specs.plant_model.RealWire.{wire}
use Rattle.client_laws.proofs.plant_laws.Blind.OneThing.{says_one_thing}
use Rattle.client_laws.proofs.plant_laws.Blind.SaysBlind.{says_as_blind}
use Rattle.blind_play.specs.Turns.{all_heard, trace_of}
use Rattle.blind_play.proofs.SayingLemmas.{says_so}
use Rattle.blind_play.proofs.ScriptLemmas.{cues_given}
use Rattle.pce_tool.specs.Headline.{BlindsAreHeard}

pub blinds_are_heard : (files : Option Files) (net : List ℕ) → BlindsAreHeard files net
blinds_are_heard files net n done turns told end has p =
    let said = says_so n p.start end p.cues turns told (cues_given n done p.cues p.are_cues) p.new p.played in
    record {
      says = said;
      hears = λ es s disclosed.
          let blind = says_as_blind wire n es (trace_of turns []) s disclosed in
          says_one_thing wire n (settings_are_modelled has.bytes n has.is_text) (trace_of turns []) said.given (heard wire n (deeds_of wire n es))
          (heard wire n (blind_opened wire n).deeds ++ all_heard n turns) blind.0 end.state blind.1 said.says;
    }
