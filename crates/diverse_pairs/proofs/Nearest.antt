-- Distances in blocks, as one is put, and the nearest of all.
use Rattle.std.proofs.Common.{◌≡◌, ℕ, ◌+◌, ◌*◌, ◌/◌, ◌<◌, ◌≤◌, List, length, min, arith, None, Some}
use Rattle.std.specs.Prelude.{MatchOption}
use Rattle.std.specs.declared.option.Option.{Option}
use Rattle.diverse_pairs.specs.declared.arcs.TheConstants.{UNREACHED}
use Rattle.diverse_pairs.specs.Arcs.{at}
use Rattle.diverse_pairs.specs.Blocks.{IsInBlock, IsNearestIn, AreNearest}

-- where the nearest of each group has no distance, none has
pub none_near : (ds ns : List ℕ) (k least : ℕ) → AreNearest 64 ds ns → length ns ≤ k → ((b : ℕ) → b < k → least ≤ at ds (at ns b)) → least ≡ UNREACHED → (i : ℕ) → i < length ds → UNREACHED ≤ at ds i
none_near ds ns k least are all each none i inside =
    let b : ℕ = i / 64 in
    let within : i / 64 < length ns = omega (arith, inside, are.enough) in
    let is = are.each (i / 64) within in
    omega (arith, none, each (i / 64) (omega (arith, within, all)), is.least i inside (record { from = omega arith; to = omega arith }))

-- the nearest of all groups is the nearest of all
pub nearest_found : (ds ns : List ℕ) (k least : ℕ) (o : Option ℕ) → AreNearest 64 ds ns → length ns ≤ k → ((b : ℕ) → b < k → least ≤ at ds (at ns b)) →
    MatchOption o (least ≡ UNREACHED) (λ i. (i < length ds) × (at ds i < UNREACHED)) →
    MatchOption o ((i : ℕ) → i < length ds → UNREACHED ≤ at ds i) (λ i. (i < length ds) × (at ds i < UNREACHED))
nearest_found ds ns k least None are all each none = none_near ds ns k least are all each none
nearest_found ds ns k least (Some i) are all each found = found

-- the nearest of the blocks of a group is the nearest of the group
pub nearest_in_group : (ds ns : List ℕ) (group k found : ℕ) → AreNearest 8 ds ns → min (group * 8 + 8) (length ns) ≤ k → found < length ds → IsInBlock 64 group found →
    ((b : ℕ) → group * 8 ≤ b → b < k → at ds found ≤ at ds (at ns b)) → IsNearestIn 64 ds group found
nearest_in_group ds ns group k found are end below inside each = record {
  below = below;
  inside = inside;
  least = λ i within in_group.
      let block_within : i / 8 < length ns = omega (arith, within, are.enough) in
      let before : i / 8 < k = omega (arith, end, block_within, in_group.to) in
      omega (arith, each (i / 8) (omega (arith, in_group.from)) before, (are.each (i / 8) block_within).least i within (record { from = omega arith; to = omega arith }));
}
