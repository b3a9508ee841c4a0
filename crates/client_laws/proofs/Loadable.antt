-- In every run the topologies that elements have may be loaded.
use Rattle.std.proofs.Common.{List}
use Rattle.plant_play.specs.plant_model.Types.{NetworkParts}
use Rattle.plant_play.specs.plant_model.Plant.{Entry, Plant, Run}
use Rattle.plant_play.specs.plant_model.RealWire.{wire}
use Rattle.run_laws.specs.plant_laws.Topologies.{IsDomain}
use Rattle.run_laws.proofs.plant_laws.Runs.Topologies.{pins_are_domains}
use Rattle.client_laws.specs.Laws.{AreLoadable}

pub runs_are_loadable : (n : NetworkParts) (entries : List Entry) (s : Plant) → Run wire n entries s → AreLoadable s
runs_are_loadable n entries s run d =
    let domain : IsDomain d (s.current d).topology = (pins_are_domains wire n entries s run).current d in
    (domain.own, domain.topology, domain.order, domain.range)
