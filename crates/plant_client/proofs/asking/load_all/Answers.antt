use Rattle.std.proofs.Common.{◌+◌, ◌∙◌, take, drop, refl, arith, rules}
use Rattle.plant_play.specs.Playing.{played_network}
use Rattle.plant_client.proofs.AskingLemmas.{all_loaded, load_next, loads_stop, none_played, parts_at}
use Rattle.plant_client.proofs.asking.load_all.Goals as goal

pub loop-topology-init : goal.loop-topology-init
loop-topology-init g c = record { files = refl; later = omega arith; played = none_played (g.S.Store.files c.args.store.now) (played_network c.args.player.now) }

pub loop-topology-preserved : goal.loop-topology-preserved
loop-topology-preserved g c = record {
  files = c.load.ensures.files ∙ c.loop-topology.invariant.files;
  later = omega (arith, c.loop-topology.invariant.later, c.load.ensures.later);
  played = load_next (g.S.Store.files c.args.store.now) (g.S.Store.files c.loop-topology.store) c.args.topologies.now c.loop-topology.topology-index c.topology-item.result (played_network c.args.player.now) (played_network c.loop-topology.player) (played_network c.load.new.player)
      c.loop-topology-test.true c.topology-item.is c.loop-topology.invariant.files c.loop-topology.invariant.played c.in_ok-load.ensures.loads;
}

pub returns-in_err-load-clause-stops : goal.returns-in_err-load-clause-stops
returns-in_err-load-clause-stops g c =
    let xs = c.args.topologies.now in
    let i = c.loop-topology.topology-index in
    let x = c.topology-item.result in
    let stops = loads_stop (g.S.Store.files c.args.store.now) (g.S.Store.files c.loop-topology.store) xs (take i xs) (drop (i + 1) xs) x (played_network c.args.player.now) (played_network c.loop-topology.player) (played_network c.load.new.player)
    (g.S.Store.faults c.args.store.now) (g.S.Store.faults c.loop-topology.store) (g.S.Store.faults c.load.new.store) (g.S.Store.failed_at c.load.new.store) c.in_err-load.field-0.0
    c.loop-topology.invariant.files c.loop-topology.invariant.later (parts_at xs i x c.loop-topology-test.true c.topology-item.is) c.loop-topology.invariant.played c.in_err-load.ensures.refused in
    search rules

pub returns-in_err-load-clause-files : goal.returns-in_err-load-clause-files
returns-in_err-load-clause-files g c = c.load.ensures.files ∙ c.loop-topology.invariant.files

pub returns-in_err-load-clause-later : goal.returns-in_err-load-clause-later
returns-in_err-load-clause-later g c = omega (arith, c.loop-topology.invariant.later, c.load.ensures.later)

pub returns-clause-loads : goal.returns-clause-loads
returns-clause-loads g c =
    all_loaded (g.S.Store.files c.args.store.now) c.args.topologies.now c.loop-topology.topology-index (played_network c.args.player.now) (played_network c.loop-topology.player) c.loop-topology-test.false c.loop-topology.invariant.played
