use Rattle.std.proofs.Common.{List, ℕ, ◌++◌, ◌∷◌, [], ap, ◌∙◌, decimal}
use Rattle.ted_watch.specs.Answers.{said_text}
use Rattle.ted_watch.proofs.Parts.{shown_parts}
use Rattle.ted_watch.proofs.answers.write_shown.Goals as goal

pub returns : goal.returns
returns c =
    c.in_ok-push.ensures.items
    ∙ ap (λ (v : List ℕ). v ++ 10 ∷ []) (c.in_ok-write_said.ensures
    ∙ ap (λ (v : List ℕ). v ++ said_text c.args.shown) (c.in_ok-write_number.ensures.ok
    ∙ ap (λ (n : ℕ). c.args.into.now.items ++ decimal n) c.from.ensures))
    ∙ shown_parts c.args.into.now.items c.args.at c.args.shown
