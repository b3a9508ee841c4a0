use Rattle.std.proofs.Common.{◌∙◌, List, ℕ, ◌++◌, ◌∷◌, [], ap, append_assoc}
use Rattle.network_check.specs.Told.{line_head, pieces_text}
use Rattle.network_check.proofs.told.tell.Goals as goal

pub returns : goal.returns
returns c =
    let head = line_head c.args.file.now c.args.line in
    let words = pieces_text c.args.pieces.now in
    let old = c.args.into.now.items in
    c.in_ok-push.ensures.items
    ∙ ap (λ (v : List ℕ). v ++ 10 ∷ []) (c.in_ok-write_pieces.ensures ∙ ap (λ (v : List ℕ). v ++ words) c.in_ok-write_head.ensures)
    ∙ append_assoc (old ++ head) words (10 ∷ [])
    ∙ append_assoc old head (words ++ 10 ∷ [])
