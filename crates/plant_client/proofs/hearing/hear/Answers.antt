use Rattle.std.proofs.Common.{◌∙◌}
use Rattle.plant_client.proofs.TellingLemmas.{frames_are}
use Rattle.plant_client.proofs.hearing.hear.Goals as goal

pub returns : goal.returns
returns c =
    let frames = c.as_slice.ensures ∙ frames_are c.new.result c.feed.new.self c.args.received.now c.in_ok-fed.fed.frames c.new.ensures c.in_ok-fed.ensures.ok in
    rw frames at c.in_last.ensures
