use Rattle.std.proofs.Common.{◌≡◌, ◌+◌, ◌∙◌, ◌/◌, ◌^◌, ℕ, ap, sym}
use Rattle.network_files.specs.Draws.{state_after, state_at}
use Rattle.network_files.proofs.DrawLemmas.{one_more}
use Rattle.network_files.proofs.draws.Draws.next.Goals as goal

pub invariant_of-self : goal.invariant_of-self
invariant_of-self c = c.state_after-self-inside.ensures ∙ (ap state_after c.self.invariant ∙ sym (one_more c.self.inside.taken))

pub returns-clause-number : goal.returns-clause-number
returns-clause-number c =
    let state : c.state_after-self-inside.result ≡ state_at (c.self.inside.taken + 1) =
    c.state_after-self-inside.ensures ∙ (ap state_after c.self.invariant ∙ sym (one_more c.self.inside.taken)) in
    ap (λ (x : ℕ). x / 2 ^ 33) state ∙ ap (λ (k : ℕ). state_at (k + 1) / 2 ^ 33) c.self.view_is
