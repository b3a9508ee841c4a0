use Rattle.std.proofs.Common.{◌≡◌, ◌∙◌, ◌≤◌, sym, ap, subst}
use Rattle.path_keys.specs.Keys.{Keys}
use Rattle.pce_common.specs.plant_model.Element.{Element}
use Rattle.pce_element.specs.Changes.{all_issued}
use Rattle.pce_element.specs.Seen.{Seen}
use Rattle.pce_element.proofs.KeySteps.{clock_after}
use Rattle.pce_element.proofs.element.Element.plan_answer.Goals as goal

pub returns-clause-clock : goal.returns-clause-clock
returns-clause-clock g c =
    let keys : Keys _ = c.args.self.now.losing.element.keys in
    let same : c.reserve_keys.new.self.losing.element.keys ≡ keys = ap (λ (s : Seen _ _). s.losing.element.keys) c.reserve_keys.ensures.same in
    let is : c.of.result.taken.element.keys ≡ all_issued c.args.now.0 c.args.answered.segments keys =
    ap (λ (e : Element _ _). e.keys) c.of.ensures.element ∙ ap (all_issued c.args.now.0 c.args.answered.segments) same in
    subst (λ (ks : Keys _). ks.clock ≤ c.args.now.0) (sym is) (clock_after c.args.now.0 c.args.answered.segments keys c.requires.clock)
