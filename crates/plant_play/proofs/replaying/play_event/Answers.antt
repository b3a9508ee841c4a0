use Rattle.std.proofs.Common.{◌≡◌, ◌∙◌, ap, subst}
use Rattle.std.proofs.KnownBytes.{Keeps-refl}
use Rattle.std.proofs.lemmas.Result.{err_from_is_err_and}
use Rattle.std.specs.Io.KnownBytes.{Appends}
use Rattle.dom_edge.specs.Whole.{AppendsSome}
use Rattle.plant_play.specs.Cues.{PlaysCue}
use Rattle.plant_play.specs.Logs.{Told, untold}
use Rattle.plant_play.specs.Playing.{played_network}
use Rattle.plant_play.specs.Replays.{is_told}
use Rattle.plant_play.proofs.ReplayLemmas.{cue_passes, cue_stops}
use Rattle.plant_play.proofs.replaying.play_event.Goals as goal

pub returns-in_err-_answer-clause-ends : goal.returns-in_err-_answer-clause-ends
returns-in_err-_answer-clause-ends g c =
    let p = err_from_is_err_and c.from_residual.result c.from_residual.ensures.1 in
    let old = played_network c.args.player.now in
    let w0 = g.K.Sink.written c.args.out.now in
    let o0 = g.K.Sink.faults c.args.out.now in
    rw (p.1, p.2) (λ text has.
    cue_stops (g.S.Store.files c.args.store.now) c.args.span old.network c.args.number text c.args.event has old (played_network c.play_cue.new.player) (w0, w0)
    (g.S.Store.faults c.args.store.now, g.S.Store.faults c.play_cue.new.store) (o0, o0) (g.S.Store.failed_at c.play_cue.new.store) (Keeps-refl w0) c.in_err-_answer.field-0.0 c.in_err-_answer.ensures.refused)

pub returns-in-Ok-clause-does : goal.returns-in-Ok-clause-does
returns-in-Ok-clause-does g c = λ text has.
    let files = g.S.Store.files c.args.store.now in
    let old = played_network c.args.player.now in
    let new = played_network c.play_cue.new.player in
    let answer = c.in_ok-_answer._answer in
    let told = c.in_ok-_answer.told in
    let empty : c.log_of-log.result ≡ untold (is_told c.args.span c.args.number) = c.log_of-log.ensures ∙ ap untold c.is_told.ensures in
    let plays = subst (λ (t : Told). PlaysCue files c.args.number c.args.event answer old new t told) empty c.in_ok-_answer.ensures.plays in (
      plays.turns,
      told.text,
      cue_passes files c.args.span old.network c.args.number text c.args.event has old new answer told plays,
      subst (Appends (g.K.Sink.written c.args.out.now) (g.K.Sink.written c.write_all.new.sink)) c.text.ensures c.in-Ok.ensures.ok,
    )

pub returns-clause-ends : goal.returns-clause-ends
returns-clause-ends g c = λ text has.
    let files = g.S.Store.files c.args.store.now in
    let old = played_network c.args.player.now in
    let new = played_network c.play_cue.new.player in
    let answer = c.in_ok-_answer._answer in
    let told = c.in_ok-_answer.told in
    let empty : c.log_of-log.result ≡ untold (is_told c.args.span c.args.number) = c.log_of-log.ensures ∙ ap untold c.is_told.ensures in
    let plays = subst (λ (t : Told). PlaysCue files c.args.number c.args.event answer old new t told) empty c.in_ok-_answer.ensures.plays in (
      c.in-Err.ensures.failed,
      (
        plays.turns,
        told.text,
        cue_passes files c.args.span old.network c.args.number text c.args.event has old new answer told plays,
        subst (AppendsSome (g.K.Sink.written c.args.out.now) (g.K.Sink.written c.write_all.new.sink)) c.text.ensures c.in-Err.ensures.part,
      ),
    )
