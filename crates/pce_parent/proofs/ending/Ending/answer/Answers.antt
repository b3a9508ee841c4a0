use Rattle.pce_parent.specs.declared.ending.Ending.{Ending}
use Rattle.pce_parent.specs.Pendings.{row_of}
use Rattle.pce_parent.proofs.Telling.{answers_more}
use Rattle.pce_parent.proofs.ending.Ending.answer.Goals as goal

pub returns : goal.returns
returns c =
    let new : Ending = record { numbers = c.push.new.self; outputs = c.push-2.new.self } in
    answers_more c.args.self.now new (row_of c.args.row) c.args.message c.in_ok-push.ensures.items c.in_ok-push-2.ensures.ok
