use Rattle.std.proofs.Common.{List, ℕ, ◌++◌, ap, ◌∙◌, codes, decimal}
use Rattle.ted_watch.proofs.Parts.{counts_parts}
use Rattle.ted_watch.proofs.answers.write_counts.Goals as goal

pub returns : goal.returns
returns c =
    let s = c.args.shown.now in
    c.in_ok-write_number-3.ensures.ok
    ∙ ap (λ (n : ℕ). c.extend_from_slice-3.new.self.items ++ decimal n) c.from-2.ensures
    ∙ ap (λ (v : List ℕ). v ++ decimal s.links) (c.in_ok-extend_from_slice-3.ensures.items
    ∙ ap (λ (v : List ℕ). v ++ codes " links ") (c.in_ok-write_number-2.ensures.ok
    ∙ ap (λ (n : ℕ). c.extend_from_slice-2.new.self.items ++ decimal n) c.from.ensures
    ∙ ap (λ (v : List ℕ). v ++ decimal s.nodes) (c.in_ok-extend_from_slice-2.ensures.items
    ∙ ap (λ (v : List ℕ). v ++ codes " nodes ") (c.in_ok-write_number.ensures.ok
    ∙ ap (λ (v : List ℕ). v ++ decimal s.generation) c.in_ok-extend_from_slice.ensures.items))))
    ∙ counts_parts c.args.into.now.items s
