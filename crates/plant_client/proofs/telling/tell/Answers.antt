use Rattle.std.proofs.Common.{◌++◌, ◌∙◌, ℕ, List, ap}
use Rattle.plant_client.specs.Telling.{frame_lines, last_of}
use Rattle.plant_client.proofs.TellingLemmas.{frames_are}
use Rattle.plant_client.proofs.telling.tell.Goals as goal

pub returns : goal.returns
returns c =
    let frames = c.as_slice.ensures ∙ frames_are c.new.result c.feed.new.self c.args.received.now c.in_ok-fed.fed.frames c.new.ensures c.in_ok-fed.ensures.ok in
    c.in_ok-write_last.ensures
    ∙ ap (λ (l : List ℕ). l ++ frame_lines (last_of c.as_slice.result.now)) c.new-text.ensures.items
    ∙ ap (λ (l : List (List ℕ)). frame_lines (last_of l)) frames
