use Rattle.std.proofs.Common.{◌≡◌, ◌≢◌, ◌*◌, ◌/◌, ◌<◌, ◌≤◌, ℕ, length, map, refl, sym, ◌∙◌, ap, arith}
use Rattle.std.specs.Prelude.{slice_set, slice_index_or}
use Rattle.std.proofs.Math.ListN.{length-set}
use Rattle.std.proofs.Math.Seq.{map-set_same}
use Rattle.std.proofs.lemmas.List.{get_or-set_same, get_or-set_other, get_or_default, map-set}
use Rattle.path_search.specs.declared.blocks.TheConstants.{NOTHING}
use Rattle.path_search.specs.Blocks.{num_at, shown_cost}
use Rattle.path_search.proofs.InBlocks.{lowered, kept, of_block, put_blocks, put_marked}
use Rattle.path_search.proofs.blocks.set_cost.Goals as goal

pub returns-then-number-least-clause-blocks : goal.returns-then-number-least-clause-blocks
returns-then-number-least-clause-blocks c =
    let costs = c.args.costs.now in
    let least = c.args.least.now in
    let place = c.args.place in
    let number = c.number_of-number.result in
    let block : ℕ = place / 32 in
    let inside : block < length least = omega (arith, c.requires.place, c.requires.blocks.enough) in
    let less : number < num_at least block = omega (arith, c.if-number-least.true, get_or_default least block NOTHING 0 inside) in
    let long : length (slice_set least block number) ≡ length least = simp length-set in
    put_blocks costs least (slice_set least block number) place number block number c.requires.blocks refl long
    (get_or-set_same least block number NOTHING inside) (λ b other. get_or-set_other least block b number NOTHING other)
    (lowered costs place number (block * 32) (num_at least block) (omega arith) (omega arith) c.requires.place less (c.requires.blocks.each block inside))

pub returns-then-was-least-clause-blocks : goal.returns-then-was-least-clause-blocks
returns-then-was-least-clause-blocks c =
    let costs = c.args.costs.now in
    let least = c.args.least.now in
    let place = c.args.place in
    let number = c.number_of-number.result in
    let top = c.least_of.result in
    let block : ℕ = place / 32 in
    let inside : block < length least = omega (arith, c.requires.place, c.requires.blocks.enough) in
    let long : length (slice_set least block top) ≡ length least = simp length-set in
    put_blocks costs least (slice_set least block top) place number block top c.requires.blocks refl long
    (get_or-set_same least block top NOTHING inside) (λ b other. get_or-set_other least block b top NOTHING other)
    (of_block (slice_set costs place number) c.block_of.result.now (block * 32) top c.block_of.ensures c.least_of.ensures)

pub returns-else-was-least-clause-blocks : goal.returns-else-was-least-clause-blocks
returns-else-was-least-clause-blocks c =
    let costs = c.args.costs.now in
    let least = c.args.least.now in
    let place = c.args.place in
    let number = c.number_of-number.result in
    let block : ℕ = place / 32 in
    let inside : block < length least = omega (arith, c.requires.place, c.requires.blocks.enough) in
    let here : num_at least block ≡ slice_index_or least block 0 = get_or_default least block NOTHING 0 inside in
    let there : num_at costs place ≡ slice_index_or costs place 0 = get_or_default costs place NOTHING 0 c.requires.place in
    let no_less : num_at least block ≤ number = omega (arith, c.if-number-least.false, here) in
    let differs : num_at costs place ≢ num_at least block = λ same. omega (arith, c.if-was-least.false, same, here, there) in
    put_blocks costs least least place number block (num_at least block) c.requires.blocks refl refl refl (λ b other. refl)
    (kept costs place number (block * 32) (num_at least block) c.requires.place no_less differs (c.requires.blocks.each block inside))

pub returns-then-number-was-clause-blocks : goal.returns-then-number-was-clause-blocks
returns-then-number-was-clause-blocks c = c.requires.blocks

pub returns-then-number-was-clause-costs : goal.returns-then-number-was-clause-costs
returns-then-number-was-clause-costs c =
    let costs = c.args.costs.now in
    let place = c.args.place in
    sym (map-set_same shown_cost costs place c.number_of-number.result 0 (ap shown_cost c.if-number-was.true))
    ∙ map-set shown_cost costs place c.number_of-number.result ∙ ap (λ o. slice_set (map shown_cost costs) place o) c.number_of-number.ensures.cost

pub returns-then-number-least-clause-costs : goal.returns-then-number-least-clause-costs
returns-then-number-least-clause-costs c =
    map-set shown_cost c.args.costs.now c.args.place c.number_of-number.result ∙ ap (λ o. slice_set (map shown_cost c.args.costs.now) c.args.place o) c.number_of-number.ensures.cost

pub returns-then-was-least-clause-costs : goal.returns-then-was-least-clause-costs
returns-then-was-least-clause-costs c =
    map-set shown_cost c.args.costs.now c.args.place c.number_of-number.result ∙ ap (λ o. slice_set (map shown_cost c.args.costs.now) c.args.place o) c.number_of-number.ensures.cost

pub returns-else-was-least-clause-costs : goal.returns-else-was-least-clause-costs
returns-else-was-least-clause-costs c =
    map-set shown_cost c.args.costs.now c.args.place c.number_of-number.result ∙ ap (λ o. slice_set (map shown_cost c.args.costs.now) c.args.place o) c.number_of-number.ensures.cost

pub returns-then-number-least-clause-marked : goal.returns-then-number-least-clause-marked
returns-then-number-least-clause-marked c = put_marked c.args.costs.now c.args.place c.number_of-number.result c.requires.marked c.requires.place c.number_of-number.ensures.mark

pub returns-then-was-least-clause-marked : goal.returns-then-was-least-clause-marked
returns-then-was-least-clause-marked c = put_marked c.args.costs.now c.args.place c.number_of-number.result c.requires.marked c.requires.place c.number_of-number.ensures.mark

pub returns-else-was-least-clause-marked : goal.returns-else-was-least-clause-marked
returns-else-was-least-clause-marked c = put_marked c.args.costs.now c.args.place c.number_of-number.result c.requires.marked c.requires.place c.number_of-number.ensures.mark

pub returns-then-number-was-clause-marked : goal.returns-then-number-was-clause-marked
returns-then-number-was-clause-marked c = c.requires.marked
