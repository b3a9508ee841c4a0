use Rattle.std.proofs.Common.{List, ℕ, ◌++◌, ap, ◌∙◌, append_assoc, codes, decimal}
use Rattle.transcript.proofs.lines.write_loaded.Goals as goal

pub returns : goal.returns
returns c =
    c.in_ok-write_number.ensures.ok
    ∙ ap (λ (v : List ℕ). v ++ decimal c.args.generation) c.in_ok-extend_from_slice.ensures.items
    ∙ append_assoc c.args.into.now.items (codes "ok generation ") (decimal c.args.generation)
