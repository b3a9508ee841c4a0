use Rattle.plant_network.specs.Topologies.{whole}
use Rattle.plant_play.proofs.EventLemmas.{one_event}
use Rattle.plant_play.proofs.ShownLemmas.{still_wait}
use Rattle.plant_play.proofs.events.play_event.Goals as goal

pub returns-clause-plays : goal.returns-clause-plays
returns-clause-plays c =
    one_event c.args.line c.args.modes (whole c.args.plant.now) c.args.event c.in_ok-answer.answer (whole c.make.new.plant) c.in_ok-job.job c.args.into.now c.write_answer.new.into c.write_brought.new.into
    c.in_ok-job.ensures c.in_ok-answer.ensures.makes c.in_ok-write_answer.ensures c.in_ok-write_brought.ensures

pub write_brought-requires : goal.write_brought-requires
write_brought-requires c =
    still_wait c.args.line c.args.modes.certify c.in_ok-job.job c.beside-labels.result c.make.new.labels c.args.into.now c.write_answer.new.into _ c.beside-labels.ensures c.in_ok-write_answer.ensures
    c.in_ok-answer.ensures.labels
