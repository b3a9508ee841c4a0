use Rattle.std.proofs.Common.{inl, refl, subst}
use Rattle.network_files.specs.declared.error.FileError.{FileError}
use Rattle.network_files.specs.Reading.{IsWhyNoChanges}
use Rattle.ted_watch.specs.Watch.{published}
use Rattle.server_loops.specs.Operating.{ChangesFile, past}
use Rattle.server_loops.proofs.Doing.{refused_goes}
use Rattle.server_loops.proofs.loading.change_text.Goals as goal

pub returns-in-Err-clause-goes : goal.returns-in-Err-clause-goes
returns-in-Err-clause-goes g c =
    let k = c.args.line.number in
    let name = c.args.line.name.now in
    let file = c.args.file.now in
    let list = (published c.args.publisher.now) in
    refused_goes (ChangesFile c.args.network.now k c.args.line.at name file list) k name c.in-Err.why c.tell_refused.result (past (g.D.Chart.charted c.args.desk.now) list) (g.D.Chart.charted c.args.desk.now).spent c.args.into.now.items c.tell_refused.new.into.items
    (λ place fault e. inl (place, fault, subst (λ (why : FileError). IsWhyNoChanges file why) e c.in-Err.ensures.refused, refl)) c.requires.fresh c.tell_refused.ensures
