use Rattle.std.proofs.Common.{subst, sym}
use Rattle.std.specs.Arc.{arc_value}
use Rattle.event_tape.specs.declared.told.Told.{Told}
use Rattle.plant_record.specs.Books.{AreLoads}
use Rattle.plant_record.specs.Parts.{loaded_by}
use Rattle.plant_record.proofs.Books.{one_load}
use Rattle.plant_record.proofs.hands.keep_load.Goals as goal

pub returns-clause-loads : goal.returns-clause-loads
returns-clause-loads g c =
    subst (λ (e : Told). AreLoads c.args.loads (loaded_by e)) (sym c.in-Load.is)
    (one_load c.args.loads c.in-Some.number (arc_value c.in-Load.topology) c.deref.result.now c.deref.ensures c.in-Some.ensures.1 c.in_ok-keep_topology.ensures.load)
