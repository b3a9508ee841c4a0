use Rattle.std.proofs.Common.{◌≡◌, length, take, drop, sym, ◌∙◌, arith}
use Rattle.std.proofs.lemmas.Grind.{common_steps}
use Rattle.std.proofs.lemmas.List.{take_rest}
use Rattle.dom_edge.proofs.Taken.{left_over}
use Rattle.dom_edge.proofs.rest.Rest.take.Goals as goal

pub returns-clause-taken : goal.returns-clause-taken
returns-clause-taken c =
    let bytes = c.self.inside.bytes in
    let taken = c.self.inside.taken in
    let n = c.min-count.result in
    let front = c.copy_from_slice.new.self in
    let is_front : front ≡ take n (drop taken bytes) = grind (arith, common_steps, take_rest) in
    let long : length front ≡ n = grind (arith, common_steps) in
    sym c.self.view_is ∙ left_over bytes front (drop n c.args.into.now) taken n is_front long
