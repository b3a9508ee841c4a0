use Rattle.std.proofs.Common.{◌∷◌, [], ℕ, Ok, Err, Some, None, inl, inr, refl, subst}
use Rattle.te_links.specs.Rows.{Rows}
use Rattle.network_files.specs.declared.error.FileError.{FileError}
use Rattle.network_files.specs.Reading.{IsWhyNoChange}
use Rattle.plant_model.specs.declared.outcome.Refused.TheVariants.{NoSuchPeer}
use Rattle.transcript.specs.Lines.{answer_line}
use Rattle.ted_watch.specs.Watch.{published}
use Rattle.server_loops.specs.Charts.{Mapped}
use Rattle.server_loops.specs.Operating.{ChangesFile, Loads, past}
use Rattle.server_loops.proofs.Doing.{goes_as, goes_later, refused_later}
use Rattle.server_loops.proofs.loading.load_changed.Goals as goal

pub returns-in-Ok-clause-goes : goal.returns-in-Ok-clause-goes
returns-in-Ok-clause-goes g c = λ j o calls shown.
    let n = c.args.network.now in
    let k = c.args.line.number in
    let at = c.args.line.at in
    let list = (published c.args.publisher.now) in
    let a = past (g.D.Chart.charted c.args.desk.now) list in
    let b = past (g.D.Chart.charted c.load.new.desk) (published c.load.new.publisher) in
    let spent = (g.D.Chart.charted c.load.new.desk).spent in
    let found : ℕ × Rows = (j, c.args.topology.now) in
    let earlier = Mapped at (Ok (Some found)) ∷ [] in
    let before = c.args.into.now.items in
    let after = c.load.new.into.items in
    goes_as (Loads n k at c.in-Ok.changed list earlier) (ChangesFile n k at c.args.line.name.now c.args.file.now list)
    (λ w d. inr (c.args.changes.now, c.requires.says, (Ok (Some found), inr (c.in-Ok.changed, c.in-Ok.ensures.built, d)))) c.load.result o b spent before after
    (goes_later n k at c.in-Ok.changed list earlier o a b calls shown c.load.result spent before after c.load.ensures.goes)

pub returns-in-Err-clause-goes : goal.returns-in-Err-clause-goes
returns-in-Err-clause-goes g c = λ j o calls shown.
    let n = c.args.network.now in
    let k = c.args.line.number in
    let at = c.args.line.at in
    let name = c.args.line.name.now in
    let file = c.args.file.now in
    let list = (published c.args.publisher.now) in
    let a = past (g.D.Chart.charted c.args.desk.now) list in
    let found : ℕ × Rows = (j, c.args.topology.now) in
    refused_later (ChangesFile n k at name file list) k name c.in-Err.why c.tell_refused.result at (Ok (Some found)) (Ok None) (record { calls = Mapped at (Ok None) ∷ []; shown = []; text = answer_line k (Err NoSuchPeer) }) [] o a
    (g.D.Chart.charted c.args.desk.now).spent c.args.into.now.items c.tell_refused.new.into.items
    (λ place fault e. inr (c.args.changes.now, c.requires.says, (Ok (Some found), inl (place, fault, subst (λ (why : FileError). IsWhyNoChange at c.args.topology.now c.args.changes.now file why) e c.in-Err.ensures.refused, refl))))
    (inr (c.args.changes.now, c.requires.says, (Ok None, refl))) refl c.requires.fresh calls shown c.tell_refused.ensures
