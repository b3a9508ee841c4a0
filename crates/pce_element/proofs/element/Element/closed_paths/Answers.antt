use Rattle.std.proofs.Common.{◌≡◌, ◌∙◌, ℕ, length, sym, ap}
use Rattle.std.proofs.lemmas.Result.{IfOk-weaker}
use Rattle.pce_common.specs.plant_model.Types.{Addr}
use Rattle.pce_element.specs.Answering.{closed_parts, paths_by}
use Rattle.pce_element.proofs.CommitLemmas.{closed_are, length-parts}
use Rattle.pce_element.proofs.element.Element.closed_paths.Goals as goal

pub paths_by-requires-clause-one_part_each : goal.paths_by-requires-clause-one_part_each
paths_by-requires-clause-one_part_each g c = length-parts _ _ _ c.args.best.now ∙ ap length (sym c.in_ok-own.ensures) ∙ ap length (sym c.as_slice.ensures)

pub returns : goal.returns
returns g c =
    let best = c.args.best.now in
    let down = c.args.down.now in
    let m = c.args.wanted.now.query.metric in
    let target = c.args.wanted.now.target in
    let parts : c.as_slice.result.now ≡ closed_parts c.args.self.now.place.id target c.args.self.now.losing.element.keys.next best =
    c.as_slice.ensures ∙ c.in_ok-own.ensures ∙ ap (λ (a : Addr). closed_parts a target c.next_key-key.result best) c.id.ensures ∙ ap (λ (n : ℕ). closed_parts c.args.self.now.place.id target n best) c.next_key-key.ensures in
    IfOk-weaker c.paths_by.result _ _ (λ paths is. is ∙ ap (paths_by m down best) parts ∙ closed_are c.args.self.now.place.id m target down c.args.self.now.losing.element.keys.next best) c.paths_by.ensures
