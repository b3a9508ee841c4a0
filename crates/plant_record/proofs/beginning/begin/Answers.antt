use Rattle.std.proofs.Common.{◌≡◌, ◌∙◌, ◌≤◌, ℕ, List, ap, arith, subst, sym}
use Rattle.dom_edge.specs.Moments.{IsMomentText}
use Rattle.plant_record.proofs.FirstPart.{begun, fresh}
use Rattle.plant_record.proofs.Reasons.{fault_behind}
use Rattle.plant_record.proofs.beginning.begin.Goals as goal

pub returns-in-Ok-flush-clause-begins : goal.returns-in-Ok-flush-clause-begins
returns-in-Ok-flush-clause-begins g c =
    let contents = g.F.Folder.contents in
    let name : List ℕ = c.in-Ok.name.now in
    let version : List ℕ = c.args.version.now in
    let text : IsMomentText (g.C.Calendar.last c.now-moment.new.self) name =
    subst (λ (n : ℕ). IsMomentText n name) (sym c.now-moment.ensures) (subst (λ (x : List ℕ). IsMomentText c.now-moment.result x) (sym c.in-Ok.ensures.cases.0) c.text-text.ensures) in
    let is : c.new-script.result ≡ fresh name version = c.new-script.ensures ∙ ap (λ (n : List ℕ). fresh n c.in_ok-version.version) c.in_ok-named.ensures ∙ ap (λ (v : List ℕ). fresh name v) c.in_ok-version.ensures in
    begun g.F.File.Sink.written (g.C.Calendar.last c.now-moment.new.self) c.args.settings.now version name (contents c.args.folder.now) (contents c.enter.new.self) (contents c.keep_file.new.folder) (contents c.open_part.new.folder)
    c.new-script.result c.open_part.new.script c.flush.new.self c.in_ok-enter.ensures.enters c.in_ok-keep_file.ensures.ok is c.in_default-open_part.ensures.after c.in-Ok-flush.ensures.ok text

pub returns-in-Err-flush-clause-judged : goal.returns-in-Err-flush-clause-judged
returns-in-Err-flush-clause-judged g c =
    let faults = g.F.Folder.faults in
    let now = faults c.open_part.new.folder in
    let entered : faults c.args.folder.now ≤ faults c.enter.new.self = c.in_ok-enter.ensures.cause.later in
    let kept : faults c.enter.new.self ≤ faults c.keep_file.new.folder = c.in_ok-keep_file.ensures.judged in
    let opened : faults c.keep_file.new.folder ≤ now = c.in_default-open_part.ensures.judged in
    fault_behind g.F.File.Sink.faults (faults c.args.folder.now) now now c.in-Err-flush.fault (omega (arith, entered, kept, opened)) (c.in-Err-flush.ensures.judged now)
