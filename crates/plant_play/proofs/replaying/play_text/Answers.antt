use Rattle.std.proofs.Common.{[], inl, refl}
use Rattle.std.proofs.KnownBytes.{Appends-nil}
use Rattle.plant_play.proofs.replaying.play_text.Goals as goal

pub returns-in-Ok-None-clause-does : goal.returns-in-Ok-None-clause-does
returns-in-Ok-None-clause-does g c =
    let said = rw c.in-Ok-None.field-0-is at c.in-Ok-None.ensures in
    ([], [], inl (record { says = rw c.network.ensures at said; state = refl; no_turns = refl; untold = refl }), Appends-nil (g.K.Sink.written c.args.out.now))
