use Rattle.std.proofs.Common.{◌≡◌, ℕ, ◌+◌, List, Ok, true, false, ◌∙◌, ap, subst, refl, arith}
use Rattle.std.proofs.lemmas.Result.{err_from_is_err_and}
use Rattle.std.specs.declared.option.Option.{Option}
use Rattle.std.specs.Str.Lines.{strip_carriage_return}
use Rattle.dom_edge.specs.Stores.{Files}
use Rattle.plant_network.specs.plant_model.Types.{NetworkParts}
use Rattle.plant_play.specs.Playing.{played_network}
use Rattle.plant_play.specs.Reels.{ahead}
use Rattle.plant_play.specs.Replays.{DoesLine, LineEnds}
use Rattle.plant_play.specs.WholeScripts.{around}
use Rattle.plant_play.proofs.ReplayLemmas.{at_start, cut_short, line_more, line_settings, line_stops, over, reel_stops, replay_unbegun}
use Rattle.plant_play.proofs.replaying.play_lines.Goals as goal

pub returns-in_err-reel-clause-stops : goal.returns-in_err-reel-clause-stops
returns-in_err-reel-clause-stops g c =
    let p = err_from_is_err_and c.from_residual.result c.from_residual.ensures.1 in
    let f0 = g.S.Store.faults c.args.store.now in
    let o0 = g.K.Sink.faults c.args.out.now in
    let i0 = g.I.Source.faults c.args.input.now in
    rw (p.1, p.2) (replay_unbegun (g.S.Store.files c.args.store.now) c.args.span (played_network c.args.player.now).network (g.I.Source.left c.args.input.now) (g.K.Sink.written c.args.out.now)
    (f0, f0) (o0, o0) (i0, i0) (g.S.Store.failed_at c.args.store.now))

pub loop-before-init : goal.loop-before-init
loop-before-init g c = rw c.in_ok-reel.ensures.1 (record {
  settings = refl;
  at = at_start (g.S.Store.files c.args.store.now) c.args.span (played_network c.args.player.now).network (g.I.Source.left c.args.input.now) (g.K.Sink.written c.args.out.now) (played_network c.args.player.now) c.requires.new;
  files = refl;
  later = omega arith;
  after = omega arith;
  read = omega arith;
})

pub returns-in_err-next_line-clause-stops : goal.returns-in_err-next_line-clause-stops
returns-in_err-next_line-clause-stops g c =
    let was = c.loop-before.invariant in
    let p = err_from_is_err_and c.from_residual-in_err-next_line.result c.from_residual-in_err-next_line.ensures.1 in
    rw (p.1, p.2) (reel_stops (g.S.Store.files c.args.store.now) c.args.span (played_network c.args.player.now).network (g.I.Source.left c.args.input.now) (g.K.Sink.written c.args.out.now)
    (g.K.Sink.written c.loop-before.out) (ahead c.loop-before.reel.read (g.I.Source.left c.loop-before.input)) c.loop-before.before (played_network c.loop-before.player)
    (g.S.Store.faults c.args.store.now, g.S.Store.faults c.loop-before.store) (g.K.Sink.faults c.args.out.now, g.K.Sink.faults c.loop-before.out) (g.S.Store.failed_at c.loop-before.store)
    (g.I.Source.faults c.args.input.now) (g.I.Source.faults c.loop-before.input) (g.I.Source.faults c.next_line.new.input) was.at was.read c.in_err-next_line.field-0.0 c.in_err-next_line.ensures.err)

pub returns-in_err-play_text-clause-stops : goal.returns-in_err-play_text-clause-stops
returns-in_err-play_text-clause-stops g c =
    let files = g.S.Store.files c.args.store.now in
    let n = (played_network c.args.player.now).network in
    let input = g.I.Source.left c.args.input.now in
    let w0 = g.K.Sink.written c.args.out.now in
    let w1 = g.K.Sink.written c.loop-before.out in
    let w2 = g.K.Sink.written c.play_text.new.out in
    let f0 = g.S.Store.faults c.args.store.now in
    let f1 = g.S.Store.faults c.loop-before.store in
    let f2 = g.S.Store.faults c.play_text.new.store in
    let o0 = g.K.Sink.faults c.args.out.now in
    let o1 = g.K.Sink.faults c.loop-before.out in
    let o2 = g.K.Sink.faults c.play_text.new.out in
    let failed = g.S.Store.failed_at c.play_text.new.store in
    let number = c.loop-before.before in
    let line = c.next_line.new.self.line in
    let now = played_network c.loop-before.player in
    let new = played_network c.play_text.new.player in
    let was = c.loop-before.invariant in
    let why = c.in_err-play_text.field-0.0 in
    let came : c.in_ok-next_line.field-0 ≡ true = grind (arith, c.if-not-branch.false) in
    let is_line = c.in_ok-next_line.ensures.line (ap Ok came) in
    let text : c.without_return-text.result.now ≡ strip_carriage_return line = c.without_return-text.ensures ∙ ap strip_carriage_return c.line.ensures.line in
    let Ends : Option Files → NetworkParts → List ℕ → Type 0 = λ fs m xs. LineEnds c.args.span (around fs (w1, w2) (f1, f2) (o1, o2) failed) m (number + 1) xs now new why in
    let ends : Ends files n (strip_carriage_return line) =
    subst (λ (xs : List ℕ). Ends files n xs) text (subst (λ (fs : Option Files). Ends fs n c.without_return-text.result.now) was.files
    (subst (λ (m : NetworkParts). Ends (g.S.Store.files c.loop-before.store) m c.without_return-text.result.now) was.settings c.in_err-play_text.ensures.ends)) in
    let p = err_from_is_err_and c.from_residual-in_err-play_text.result c.from_residual-in_err-play_text.ensures.1 in
    rw (p.1, p.2) (line_stops files c.args.span n input w0 w1 w2 (ahead c.loop-before.reel.read (g.I.Source.left c.loop-before.input)) (ahead c.next_line.new.self.read (g.I.Source.left c.next_line.new.input))
    number f0 f1 f2 o0 o1 o2 failed line now new was.at is_line.0 is_line.1 was.later was.after (g.I.Source.faults c.args.input.now, g.I.Source.faults c.next_line.new.input) why ends)

pub loop-before-preserved : goal.loop-before-preserved
loop-before-preserved g c =
    let files = g.S.Store.files c.args.store.now in
    let n = (played_network c.args.player.now).network in
    let w1 = g.K.Sink.written c.loop-before.out in
    let w2 = g.K.Sink.written c.play_text.new.out in
    let f : ℕ × ℕ = (g.S.Store.faults c.loop-before.store, g.S.Store.faults c.play_text.new.store) in
    let o : ℕ × ℕ = (g.K.Sink.faults c.loop-before.out, g.K.Sink.faults c.play_text.new.out) in
    let failed = g.S.Store.failed_at c.play_text.new.store in
    let number = c.loop-before.before in
    let line = c.next_line.new.self.line in
    let now = played_network c.loop-before.player in
    let new = played_network c.play_text.new.player in
    let was = c.loop-before.invariant in
    let made = c.in_ok-play_text.ensures in
    let came : c.in_ok-next_line.field-0 ≡ true = grind (arith, c.if-not-branch.false) in
    let is_line = c.in_ok-next_line.ensures.line (ap Ok came) in
    let text : c.without_return-text.result.now ≡ strip_carriage_return line = c.without_return-text.ensures ∙ ap strip_carriage_return c.line.ensures.line in
    let Does : Option Files → NetworkParts → List ℕ → Type 0 = λ fs m xs. DoesLine c.args.span (around fs (w1, w2) f o failed) m (number + 1) xs now new in
    let does : Does files n (strip_carriage_return line) =
    subst (λ (xs : List ℕ). Does files n xs) text (subst (λ (fs : Option Files). Does fs n c.without_return-text.result.now) was.files
    (subst (λ (m : NetworkParts). Does (g.S.Store.files c.loop-before.store) m c.without_return-text.result.now) was.settings made.does)) in
    record {
      settings = line_settings files c.args.span n (number + 1) (strip_carriage_return line) now new does.1 does.0 does.2 ∙ was.settings;
      at = line_more files c.args.span n (g.I.Source.left c.args.input.now) (g.K.Sink.written c.args.out.now) w1 w2 (ahead c.loop-before.reel.read (g.I.Source.left c.loop-before.input))
          (ahead c.next_line.new.self.read (g.I.Source.left c.next_line.new.input)) number line now new f o failed was.at is_line.0 is_line.1 does;
      files = made.files ∙ was.files;
      later = omega (arith, made.later, was.later);
      after = omega (arith, made.after, was.after);
      read = omega (arith, c.in_ok-next_line.ensures.later, was.read);
    }

pub returns-clause-stops : goal.returns-clause-stops
returns-clause-stops g c =
    cut_short (g.S.Store.files c.args.store.now) c.args.span (played_network c.args.player.now).network (g.I.Source.left c.args.input.now) (g.K.Sink.written c.args.out.now)
    (g.K.Sink.written c.loop-before.out) (ahead c.loop-before.reel.read (g.I.Source.left c.loop-before.input)) c.loop-before.before (played_network c.loop-before.player)
    (g.S.Store.faults c.args.store.now, g.S.Store.faults c.loop-before.store) (g.K.Sink.faults c.args.out.now, g.K.Sink.faults c.loop-before.out) (g.S.Store.failed_at c.loop-before.store)
    c.loop-before.invariant.at

pub returns-then-not-branch-clause-whole : goal.returns-then-not-branch-clause-whole
returns-then-not-branch-clause-whole g c =
    let ended : c.in_ok-next_line.field-0 ≡ false = grind (arith, c.if-not-branch.true) in
    over (g.S.Store.files c.args.store.now) c.args.span (played_network c.args.player.now).network (g.I.Source.left c.args.input.now) (g.K.Sink.written c.args.out.now)
    (g.K.Sink.written c.loop-before.out) (ahead c.loop-before.reel.read (g.I.Source.left c.loop-before.input)) c.loop-before.before (played_network c.loop-before.player)
    (g.S.Store.faults c.args.store.now, g.S.Store.faults c.loop-before.store) (g.K.Sink.faults c.args.out.now, g.K.Sink.faults c.loop-before.out) (g.S.Store.failed_at c.loop-before.store)
    c.loop-before.invariant.at (c.in_ok-next_line.ensures.none (ap Ok ended))
