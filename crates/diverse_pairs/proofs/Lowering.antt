-- A distance that is lowered over an arc, and distances at first.
use Rattle.std.proofs.Common.{◌≡◌, ◌≢◌, inl, inr, ℕ, ◌+◌, ◌<◌, ◌≤◌, List, length, arith, sym, ◌∙◌, ap, None, Some, replicate}
use Rattle.std.specs.Prelude.{slice_set, sum}
use Rattle.std.specs.declared.option.Option.{Option}
use Rattle.std.proofs.lemmas.Bool.{cases_lt}
use Rattle.std.proofs.lemmas.Bool.Decides.{eqb_tells}
use Rattle.std.proofs.lemmas.List.{get_or-set_same, get_or-set_other, get_or_past, get_or-replicate, length-replicate}
use Rattle.std.proofs.Math.ListN.{length-set}
use Rattle.std.proofs.lemmas.List.Sums.{sum_by-set}
use Rattle.diverse_pairs.specs.declared.arcs.Arc.{Arc}
use Rattle.diverse_pairs.specs.declared.arcs.TheConstants.{UNREACHED}
use Rattle.diverse_pairs.specs.Arcs.{IsArc, at, IsAmong}
use Rattle.diverse_pairs.specs.Distances.{Lowers, Falls, AreMade}

module _ (arcs : List (Option Arc)) (t i : ℕ) (a : Arc) (old new : List ℕ) (is_arc : IsArc arcs i a) (among : IsAmong (length old) a) (low : Lowers a old new) where
  pub here : at new a.tail ≡ a.weight + at old a.head
  here = ap (λ ds. at ds a.tail) low.is ∙ get_or-set_same old a.tail (a.weight + at old a.head) 0 among.tail

  pub others : (n : ℕ) → n ≢ a.tail → at new n ≡ at old n
  others n other = ap (λ ds. at ds n) low.is ∙ get_or-set_other old a.tail n (a.weight + at old a.head) 0 other

  pub lower : (n : ℕ) → at new n ≤ at old n
  lower n = elim (eqb_tells n a.tail) [
    | inl same ↦ omega (arith, here, low.better, ap (at new) same.1, ap (at old) same.1)
    | inr other ↦ omega (arith, others n other.1)
  ]

  pub same_length : length new ≡ length old
  same_length = ap length low.is ∙ length-set old a.tail (a.weight + at old a.head)

  pub lowered : AreMade arcs t old → AreMade arcs t new
  lowered made = record {
    at_target = elim (eqb_tells t a.tail) [
      | inl same ↦ absurd (omega (arith, low.better, made.at_target, ap (at old) same.1))
      | inr other ↦ others t other.1 ∙ made.at_target
    ];
    within = λ n. omega (arith, lower n, made.within n);
    each = λ n below reached. elim (eqb_tells n a.tail) [
      | inl same ↦ inr (record { place = i; arc = a; is_arc = is_arc; tail = sym same.1; no_more = omega (arith, here, lower a.head, ap (at new) same.1) })
      | inr other ↦ elim (made.each n (omega (arith, below, same_length)) (omega (arith, reached, others n other.1))) [
        | inl target ↦ inl target
        | inr m ↦ inr (record { place = m.place; arc = m.arc; is_arc = m.is_arc; tail = m.tail; no_more = omega (arith, m.no_more, lower m.arc.head, others n other.1) })
      ]
    ];
  }

  pub falls : Falls old new
  falls =
      let sums = sum_by-set (λ (x : ℕ). x) old a.tail (a.weight + at old a.head) 0 among.tail in
      let one : sum new ≡ sum (slice_set old a.tail (a.weight + at old a.head)) = ap sum low.is in
      omega (arith, sums, one, low.better)

pub one_arc : (arcs : List (Option Arc)) (i : ℕ) (a b : Arc) → IsArc arcs i a → IsArc arcs i b → a ≡ b
one_arc arcs i a b is other = let both : Some a ≡ Some b = sym is ∙ other in cc

pub arc_within : (arcs : List (Option Arc)) (j : ℕ) (a : Arc) → IsArc arcs j a → j < length arcs
arc_within arcs j a is = elim (cases_lt j (length arcs)) [
  | inl lt ↦ lt
  | inr ge ↦ let none : None ≡ Some a = sym (get_or_past arcs j None ge) ∙ is in cc
]

-- ---- at first

pub starts : (arcs : List (Option Arc)) (nodes t : ℕ) → t < nodes → AreMade arcs t (slice_set (replicate nodes UNREACHED) t 0)
starts arcs nodes t below = record {
  at_target = get_or-set_same (replicate nodes UNREACHED) t 0 0 inside;
  within = λ n. elim (eqb_tells n t) [
    | inl same ↦ omega (arith, ap (at new) same.1, here)
    | inr other ↦ omega (arith, others n other.1, most n)
  ];
  each = λ n in_range reached. elim (eqb_tells n t) [
    | inl same ↦ inl same.1
    | inr other ↦ absurd (omega (arith, reached, others n other.1, get_or-replicate nodes n UNREACHED 0 (omega (arith, in_range, long))))
  ];
}
  where
    new : List ℕ
    new = slice_set (replicate nodes UNREACHED) t 0

    long : length new ≡ nodes
    long = length-set (replicate nodes UNREACHED) t 0 ∙ length-replicate nodes UNREACHED

    inside : t < length (replicate nodes UNREACHED)
    inside = omega (arith, below, length-replicate nodes UNREACHED)

    here : at new t ≡ 0
    here = get_or-set_same (replicate nodes UNREACHED) t 0 0 inside

    others : (n : ℕ) → n ≢ t → at new n ≡ at (replicate nodes UNREACHED) n
    others n other = get_or-set_other (replicate nodes UNREACHED) t n 0 0 other

    most : (n : ℕ) → at (replicate nodes UNREACHED) n ≤ UNREACHED
    most n = elim (cases_lt n nodes) [
      | inl lt ↦ omega (arith, get_or-replicate nodes n UNREACHED 0 lt)
      | inr ge ↦ omega (arith, get_or_past (replicate nodes UNREACHED) n 0 (omega (arith, ge, length-replicate nodes UNREACHED)))
    ]
