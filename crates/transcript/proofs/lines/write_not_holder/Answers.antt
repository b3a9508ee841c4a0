use Rattle.std.proofs.Common.{List, ℕ, ◌++◌, ap, ◌∙◌, append_assoc, codes, decimal}
use Rattle.transcript.proofs.lines.write_not_holder.Goals as goal

pub returns : goal.returns
returns c =
    c.in_ok-write_number.ensures.ok
    ∙ ap (λ (n : ℕ). c.extend_from_slice.new.self.items ++ decimal n) c.from.ensures
    ∙ ap (λ (v : List ℕ). v ++ decimal c.args.holder) c.in_ok-extend_from_slice.ensures.items
    ∙ append_assoc c.args.into.now.items (codes "refused not holder ") (decimal c.args.holder)
