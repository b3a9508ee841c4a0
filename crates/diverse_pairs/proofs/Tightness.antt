-- Tight arcs lead on, from a node with a distance, to the target.
use Rattle.std.proofs.Common.{◌≢◌, inl, inr, ℕ, ◌<◌, Bool, List, length, arith, ap}
use Rattle.std.specs.declared.option.Option.{Option}
use Rattle.diverse_pairs.specs.declared.arcs.Arc.{Arc}
use Rattle.diverse_pairs.specs.declared.arcs.TheConstants.{UNREACHED}
use Rattle.diverse_pairs.specs.Arcs.{at, AreAmong, HasArcFrom}
use Rattle.diverse_pairs.specs.Distances.{AreDistances, IsTight, AreTight}
use Rattle.diverse_pairs.specs.Paths.{LeadsOn, Falling}

pub tight_falls : (arcs : List (Option Arc)) (ds : List ℕ) (marks : List Bool) → AreAmong (length ds) arcs → AreTight arcs ds marks → Falling arcs marks ds
tight_falls arcs ds marks among tight i a is_arc marked =
    let t : IsTight ds a = (tight i a is_arc).0 marked in
    omega (arith, t.sum, (among i a is_arc).heavy)

pub tight_leads : (arcs : List (Option Arc)) (t : ℕ) (ds : List ℕ) (marks : List Bool) (s : ℕ) → AreAmong (length ds) arcs → AreDistances arcs t ds → AreTight arcs ds marks → s < length ds → at ds s < UNREACHED →
    LeadsOn arcs marks s t
tight_leads arcs t ds marks s among are tight inside reached n other stands = elim stands [
  | inl same ↦ from n (omega (arith, inside, same)) (omega (arith, reached, ap (at ds) same)) other
  | inr into ↦
      let m : IsTight ds into.arc = (tight into.place into.arc into.is_arc).0 into.used in
      let good = among into.place into.arc into.is_arc in
      from n (omega (arith, good.head, into.head)) (omega (arith, m.sum, m.reached, ap (at ds) into.head)) other
]
  where
    from : (m : ℕ) → m < length ds → at ds m < UNREACHED → m ≢ t → HasArcFrom arcs marks m
    from m within has not_target = elim (are.made.each m within has) [
      | inl target ↦ absurd (not_target target)
      | inr made ↦
          let low = are.low made.place made.arc made.is_arc in
          let same = ap (at ds) made.tail in
          record {
            place = made.place;
            arc = made.arc;
            is_arc = made.is_arc;
            used = (tight made.place made.arc made.is_arc).1 (record { reached = omega (arith, has, same); sum = omega (arith, low, made.no_more, same) });
            tail = made.tail;
          }
    ]
