use Rattle.std.proofs.Common.{All, List, ℕ, ◌∷◌, refl, subst, ◌∙◌, arith}
use Rattle.std.proofs.lemmas.List.Elements.{All-tail}
use Rattle.std.proofs.lemmas.Result.{err_from_is_err_and}
use Rattle.std.specs.declared.option.Option.{Option}
use Rattle.std.specs.Io.KnownBytes.{Appends}
use Rattle.line_text.specs.Lines.{NumberedLine}
use Rattle.line_text.proofs.Counts.{lines_at_most}
use Rattle.plant_network.specs.plant_model.Types.{NetworkParts}
use Rattle.blind_play.specs.Playing.{played_network}
use Rattle.transcript.specs.Stops.{numbered}
use Rattle.transcript.proofs.ScriptParts.{Tells, script_tells}
use Rattle.blind_play.specs.WholeScripts.{LinePlays, LineStops}
use Rattle.blind_play.proofs.ScriptLemmas.{IsAt, at_start, line_more, stops_here}
use Rattle.blind_play.proofs.script.play_lines.Goals as goal

pub new-lines-requires : goal.new-lines-requires
new-lines-requires g c = omega (arith, c.requires.within, lines_at_most c.args.script.now)

pub loop-line-init : goal.loop-line-init
loop-line-init g c = rw c.new-lines.ensures (record {
  settings = refl;
  reached = at_start (played_network c.args.player.now).network c.args.script.now (g.K.Sink.written c.args.out.now) (played_network c.args.player.now) c.requires.new;
  tell = script_tells c.args.script.now;
  after = omega arith;
})

pub loop-line-preserved : goal.loop-line-preserved
loop-line-preserved g c =
    let n = (played_network c.args.player.now).network in
    let script = c.args.script.now in
    let w0 = g.K.Sink.written c.args.out.now in
    let w1 = g.K.Sink.written c.loop-line.out in
    let w2 = g.K.Sink.written c.play_line.new.out in
    let l = numbered c.in-Some.line.number c.in-Some.line.text.now in
    let others = c.next_line.new.self in
    let now = played_network c.loop-line.player in
    let new = played_network c.play_line.new.player in
    let was = c.loop-line.invariant in
    let made = c.in_ok-play_line.ensures in
    let here : IsAt n script w0 w1 (l ∷ others) now = subst (λ (ls : List NumberedLine). IsAt n script w0 w1 ls now) c.in-Some.ensures was.reached in
    let Wrote : List ℕ → Type 0 = λ told. Appends w1 w2 told in
    let plays : LinePlays n l now new Wrote =
    subst (λ (m : NetworkParts). LinePlays m l now new Wrote) was.settings made.plays in
    record {
      settings = plays.plays.network ∙ was.settings;
      reached = line_more n script w0 w1 w2 l others now new here plays;
      tell = All-tail Tells l others (subst (All Tells) c.in-Some.ensures was.tell);
      after = omega (arith, made.after, was.after);
    }

pub returns-in_err-play_line-clause-stops : goal.returns-in_err-play_line-clause-stops
returns-in_err-play_line-clause-stops g c =
    let n = (played_network c.args.player.now).network in
    let script = c.args.script.now in
    let w0 = g.K.Sink.written c.args.out.now in
    let w1 = g.K.Sink.written c.loop-line.out in
    let w2 = g.K.Sink.written c.play_line.new.out in
    let o0 = g.K.Sink.faults c.args.out.now in
    let o1 = g.K.Sink.faults c.loop-line.out in
    let o2 = g.K.Sink.faults c.play_line.new.out in
    let l = numbered c.in-Some.line.number c.in-Some.line.text.now in
    let others = c.next_line.new.self in
    let now = played_network c.loop-line.player in
    let new = played_network c.play_line.new.player in
    let was = c.loop-line.invariant in
    let why = c.in_err-play_line.field-0.0 in
    let here : IsAt n script w0 w1 (l ∷ others) now = subst (λ (ls : List NumberedLine). IsAt n script w0 w1 ls now) c.in-Some.ensures was.reached in
    let stops : LineStops (w1, w2) (o1, o2) n l now new why =
    subst (λ (m : NetworkParts). LineStops (w1, w2) (o1, o2) m l now new why) was.settings c.in_err-play_line.ensures.stops in
    let p = err_from_is_err_and c.from_residual.result c.from_residual.ensures.1 in
    rw (p.1, p.2) (stops_here n script w0 w1 w2 o0 o1 o2 l others now new here was.after why stops)
