use Rattle.std.proofs.Common.{◌∙◌, ◌++◌, ◌∷◌, [], ℕ, List, ap, decimal}
use Rattle.network_files.specs.Faults.{fault_text}
use Rattle.server_loops.proofs.Doing.{bad_network_parts}
use Rattle.server_loops.proofs.texts.write_bad_network.Goals as goal

pub returns : goal.returns
returns c =
    c.in_ok-push.ensures.items
    ∙ ap (λ (v : List ℕ). v ++ 10 ∷ []) (c.in_ok-write_head.ensures
    ∙ ap (λ (w : List ℕ). c.write_refused.new.into.items ++ decimal c.args.line ++ 32 ∷ [] ++ w) c.fault_words.ensures
    ∙ ap (λ (v : List ℕ). v ++ decimal c.args.line ++ 32 ∷ [] ++ fault_text c.args.fault.now) c.in_ok-write_refused.ensures)
    ∙ bad_network_parts c.args.into.now.items c.args.number c.args.name.now c.args.line c.args.fault.now
