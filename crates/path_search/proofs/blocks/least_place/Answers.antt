use Rattle.std.proofs.Common.{◌≡◌, ◌+◌, ◌*◌, ◌%◌, ◌/◌, ◌<◌, ℕ, length, subst, arith}
use Rattle.std.proofs.lemmas.List.{length-map}
use Rattle.path_search.specs.declared.blocks.TheConstants.{NOTHING}
use Rattle.path_search.specs.Blocks.{num_at, shown_cost, IsLeastNumber, IsLeastFrom}
use Rattle.path_search.proofs.InBlocks.{at_most_nothing, least_at, none_left, stands_within, told_place}
use Rattle.path_search.proofs.blocks.least_place.Goals as goal

pub returns-then-lowest : goal.returns-then-lowest
returns-then-lowest c = none_left c.args._costs.now c.args.least.now c.requires.blocks (subst (IsLeastNumber c.args.least.now) c.if-lowest.true c.least_of-lowest.ensures)

pub unreachable-requires : goal.unreachable-requires
unreachable-requires c =
    let least = c.args.least.now in
    let lowest = c.least_of-lowest.result in
    let small : lowest < NOTHING = omega (arith, at_most_nothing least lowest c.least_of-lowest.ensures, c.if-lowest.false) in
    let s = c.least_of-lowest.ensures.stands small in
    c.in_default.ensures s.0 (stands_within least s.0 lowest s.1 small) s.1

pub returns : goal.returns
returns c =
    let costs = c.args._costs.now in
    let least = c.args.least.now in
    let lowest = c.least_of-lowest.result in
    let block = c.in-Some.block in
    let small : lowest < NOTHING = omega (arith, at_most_nothing least lowest c.least_of-lowest.ensures, c.if-lowest.false) in
    let is : IsLeastFrom costs (block * 32) lowest = subst (IsLeastFrom costs (block * 32)) c.in-Some.ensures.1 (c.requires.blocks.each block c.in-Some.ensures.0) in
    let place : ℕ = block * 32 + lowest % 32 in
    let at : num_at costs place ≡ lowest = told_place costs block lowest c.requires.marked is small in
    let within : place < length costs = stands_within costs place lowest at small in (
      omega (arith, length-map costs shown_cost, within),
      (
        lowest / 32,
        least_at costs least lowest place c.requires.blocks c.least_of-lowest.ensures small at,
      ),
    )
