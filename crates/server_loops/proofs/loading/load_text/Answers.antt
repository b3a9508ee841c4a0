use Rattle.std.proofs.Common.{[], inl, inr, refl, subst}
use Rattle.network_files.specs.declared.error.FileError.{FileError}
use Rattle.network_files.specs.Reading.{IsWhyNoTopology}
use Rattle.ted_watch.specs.Watch.{published}
use Rattle.server_loops.specs.Operating.{Loads, LoadsFile, past}
use Rattle.server_loops.proofs.Doing.{goes_as, refused_goes}
use Rattle.server_loops.proofs.loading.load_text.Goals as goal

pub returns-in-Ok-clause-goes : goal.returns-in-Ok-clause-goes
returns-in-Ok-clause-goes g c =
    let n = c.args.network.now in
    let k = c.args.line.number in
    let at = c.args.line.at in
    let list = (published c.args.publisher.now) in
    let a = past (g.D.Chart.charted c.args.desk.now) list in
    let b = past (g.D.Chart.charted c.load.new.desk) (published c.load.new.publisher) in
    goes_as (Loads n k at c.in-Ok.topology list []) (LoadsFile n k at c.args.line.name.now c.args.file.now list) (λ w d. inr (c.in-Ok.topology, c.in-Ok.ensures.reads, d))
    c.load.result a b (g.D.Chart.charted c.load.new.desk).spent c.args.into.now.items c.load.new.into.items c.load.ensures.goes

pub returns-in-Err-clause-goes : goal.returns-in-Err-clause-goes
returns-in-Err-clause-goes g c =
    let n = c.args.network.now in
    let k = c.args.line.number in
    let at = c.args.line.at in
    let name = c.args.line.name.now in
    let file = c.args.file.now in
    let list = (published c.args.publisher.now) in
    refused_goes (LoadsFile n k at name file list) k name c.in-Err.why c.tell_refused.result (past (g.D.Chart.charted c.args.desk.now) list) (g.D.Chart.charted c.args.desk.now).spent c.args.into.now.items c.tell_refused.new.into.items
    (λ place fault e. inl (place, fault, subst (λ (why : FileError). IsWhyNoTopology at file why) e c.in-Err.ensures.refused, refl)) c.requires.fresh c.tell_refused.ensures
