use Rattle.std.proofs.Common.{◌≡◌, ◌∙◌, Bool, true, ap, subst, sym}
use Rattle.std.specs.Prelude.{◌↔◌}
use Rattle.std.specs.Map.{lookup}
use Rattle.cost_cache.specs.declared.key.Key.{Key}
use Rattle.cost_cache.specs.Keys.{key_of, same_key}
use Rattle.server_loops.specs.WorkerSteps.{IsAsked}
use Rattle.server_loops.proofs.Remembering.{asked_by}
use Rattle.server_loops.proofs.unkept.Unkept.was_asked.Goals as goal

pub returns-clause-asked : goal.returns-clause-asked
returns-clause-asked c =
    let asked = c.args.self.now.keys in
    let key = key_of c.args.ask.now in
    subst (λ (b : Bool). (b ≡ true) ↔ IsAsked asked key) (sym c.is_some.ensures)
    (asked_by asked key c.in_ok-put.field-0 (c.in_ok-put.ensures.old ∙ ap (λ (k : Key). lookup (same_key k) asked.entries) c.in_ok-key.ensures))
