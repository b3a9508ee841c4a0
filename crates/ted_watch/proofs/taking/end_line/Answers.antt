use Rattle.std.proofs.Common.{◌≡◌, sym, subst, ◌∙◌, ℕ, List, [], ◌∷◌, Ok}
use Rattle.std.proofs.lemmas.Result.{err_from_is_err_and}
use Rattle.ted_watch.specs.Watch.{known}
use Rattle.ted_watch.specs.Answers.{asked_in, text_of}
use Rattle.ted_watch.specs.Serving.{Feeds}
use Rattle.ted_watch.specs.declared.serving.Watched.TheVariants.{WriteFault, NoMemory}
use Rattle.ted_watch.proofs.Pieces.{line_cut, line_fed, none_of}
use Rattle.ted_watch.proofs.taking.end_line.Goals as goal

pub returns-in_err-write_answer-clause-feeds : goal.returns-in_err-write_answer-clause-feeds
returns-in_err-write_answer-clause-feeds g c =
    let p = err_from_is_err_and c.from_residual.result c.from_residual.ensures.1 in
    let line = c.args.line.now.items in
    let w = g.L.Wire.writing c.args.link.now in
    let k = known c.write_answer.new.watcher in
    rw (p.1, p.2) (line_cut NoMemory line line (known c.args.watcher.now) k w w c.requires.begun tt (rw c.deref.ensures.value at c.write_answer.ensures.reads) (none_of w.written (text_of (asked_in line) k)) tt)

pub returns-in_err-write_whole-clause-feeds : goal.returns-in_err-write_whole-clause-feeds
returns-in_err-write_whole-clause-feeds g c =
    let p = err_from_is_err_and c.from_residual-in_err-write_whole.result c.from_residual-in_err-write_whole.ensures.1 in
    let line = c.args.line.now.items in
    let w = g.L.Wire.writing c.args.link.now in
    let v = g.L.Wire.writing c.write_whole.new.link in
    let k = known c.write_answer.new.watcher in
    let text : c.deref-2.result.now ≡ text_of (asked_in line) k = c.deref-2.ensures.value ∙ (rw (c.new-text.ensures.items, c.deref.ensures.value) at c.in_ok-write_answer.ensures.text) in
    rw (p.1, p.2) (line_cut WriteFault line line (known c.args.watcher.now) k w v c.requires.begun tt (rw c.deref.ensures.value at c.write_answer.ensures.reads) (rw text at c.write_whole.ensures.part) c.in_err-write_whole.ensures.failed)

pub returns-clause-feeds : goal.returns-clause-feeds
returns-clause-feeds g c =
    let line = c.args.line.now.items in
    let w = g.L.Wire.writing c.args.link.now in
    let v = g.L.Wire.writing c.write_whole.new.link in
    let k = known c.write_answer.new.watcher in
    let text : c.deref-2.result.now ≡ text_of (asked_in line) k = c.deref-2.ensures.value ∙ (rw (c.new-text.ensures.items, c.deref.ensures.value) at c.in_ok-write_answer.ensures.text) in
    subst (λ (left : List ℕ). Feeds (10 ∷ []) (Ok tt) line left (known c.args.watcher.now) k w v) (sym c.clear.ensures.items)
    (line_fed line (known c.args.watcher.now) k w v c.requires.begun (rw c.deref.ensures.value at c.write_answer.ensures.reads) (rw text at c.in_ok-write_whole.ensures.ok) c.write_whole.ensures.later)
