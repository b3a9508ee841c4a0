use Rattle.std.proofs.Common.{◌∷◌, [], ◌++◌, refl, subst, sym}
use Rattle.std.proofs.lemmas.Result.{err_from_is_err_and}
use Rattle.plant_record.specs.Parts.{loaded_by}
use Rattle.plant_record.specs.Standing.{ScriptState, Stands}
use Rattle.plant_record.proofs.Standing.{breaks_behind, pushed, stands_breaks}
use Rattle.plant_record.proofs.Writing.{err_after}
use Rattle.plant_record.proofs.hands.push_told.Goals as goal

pub returns-in_default-clause-after : goal.returns-in_default-clause-after
returns-in_default-clause-after g c = λ t before st.
    stands_breaks g.F.File.Sink.written c.args.peers.now t before (c.args.told.now ∷ []) c.args.script.now c.args.script.now (g.F.Folder.contents c.args.folder.now) st refl refl

pub returns-in_err-loads-clause-after : goal.returns-in_err-loads-clause-after
returns-in_err-loads-clause-after g c = λ t before st.
    let written = g.F.File.Sink.written in
    let peers = c.args.peers.now in
    let e = c.args.told.now in
    let s = c.args.script.now in
    let d = g.F.Folder.contents c.keep_load.new.folder in
    let p = err_from_is_err_and c.from_residual.result c.from_residual.ensures.1 in
    err_after written peers c.from_residual.result p.0 t (before ++ e ∷ []) s d p.1 (breaks_behind written peers t before e s (g.F.Folder.contents c.args.folder.now) d [] st tt c.in_err-loads.ensures.err s refl refl)

pub returns-in_err-push_line-clause-after : goal.returns-in_err-push_line-clause-after
returns-in_err-push_line-clause-after g c = λ t before st.
    let written = g.F.File.Sink.written in
    let peers = c.args.peers.now in
    let e = c.args.told.now in
    let old = g.F.Folder.contents c.args.folder.now in
    let d = g.F.Folder.contents c.keep_load.new.folder in
    let here = subst (λ (x : ScriptState _). Stands written peers t before x old) (sym c.script.view_is) st in
    let p = err_from_is_err_and c.from_residual-in_err-push_line.result c.from_residual-in_err-push_line.ensures.1 in
    err_after written peers c.from_residual-in_err-push_line.result p.0 t (before ++ e ∷ []) _ d p.1 (breaks_behind written peers t before e _ old d (loaded_by e) here c.in_ok-loads.ensures.loads c.in_ok-loads.ensures.ok.1 _ refl refl)

pub returns-clause-after : goal.returns-clause-after
returns-clause-after g c = λ t before st.
    let written = g.F.File.Sink.written in
    let peers = c.args.peers.now in
    let e = c.args.told.now in
    let old = g.F.Folder.contents c.args.folder.now in
    let here = subst (λ (x : ScriptState _). Stands written peers t before x old) (sym c.script.view_is) st in
    pushed written peers t before e _ old (g.F.Folder.contents c.keep_load.new.folder) (loaded_by e) here c.in_ok-loads.ensures.loads c.in_ok-loads.ensures.ok.1 refl c.push_line.ensures.in_range _ refl refl refl refl c.in_ok-loads.ensures.ok.0 c.in-Some.ensures.1 c.tick_after-script-inside.ensures c.in_ok-push_line.ensures.line
