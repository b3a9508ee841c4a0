use Rattle.std.proofs.Common.{refl}
use Rattle.pce_parent.specs.declared.ending.Ending.{Ending}
use Rattle.pce_parent.proofs.Telling.{ends_more}
use Rattle.pce_parent.proofs.ending.Ending.end.Goals as goal

pub returns : goal.returns
returns c =
    let old = c.args.self.now in
    let new : Ending = record { numbers = c.push.new.self; outputs = old.outputs } in
    ends_more old new c.args.number c.in_ok-push.ensures.items refl
