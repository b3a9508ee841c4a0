-- The rules in their order at a row.
use Rattle.std.proofs.Common.{◌≡◌, inl, inr, ℕ, zero, suc, ◌+◌, ◌<◌, Bool, true, false, cond, List, Option, Some, None, refl, sym, ◌∙◌, ap, subst, arith}
use Rattle.std.specs.Prelude.{slice_get}
use Rattle.std.specs.Bool.{Decides}
use Rattle.std.proofs.lemmas.Bool.{cases_lt}
use Rattle.std.proofs.lemmas.Bool.Decides.{not_from_Decides}
use Rattle.std.proofs.lemmas.Option.{same_Some}
use Rattle.te_links.specs.declared.checks.Broken.{Broken}
use Rattle.te_links.specs.declared.fault.TopoFault.{TopoFault}
use Rattle.te_links.specs.declared.fault.TopoFault.TheVariants.{TooMany, DuplicateNode, UnknownNode, OwnAs, BadMetric, DuplicateNear, DuplicateFar, DuplicateEntry, Syntax, NoHeader}
use Rattle.te_links.specs.Faults.{fault_order}
use Rattle.te_links.specs.Checks.{IsFirstRule, first_broken}

abbrev fault_of : ℕ → TopoFault
fault_of zero = TooMany
fault_of (suc zero) = DuplicateNode
fault_of (suc (suc zero)) = UnknownNode
fault_of (suc (suc (suc zero))) = OwnAs
fault_of (suc (suc (suc (suc zero)))) = BadMetric
fault_of (suc (suc (suc (suc (suc zero))))) = DuplicateNear
fault_of (suc (suc (suc (suc (suc (suc zero)))))) = DuplicateFar
fault_of (suc (suc (suc (suc (suc (suc (suc zero))))))) = DuplicateEntry
fault_of (suc (suc (suc (suc (suc (suc (suc (suc zero)))))))) = Syntax
fault_of (suc (suc (suc (suc (suc (suc (suc (suc (suc n))))))))) = NoHeader

back : (f : TopoFault) → fault_of (fault_order f) ≡ f
back TooMany = refl
back DuplicateNode = refl
back UnknownNode = refl
back OwnAs = refl
back BadMetric = refl
back DuplicateNear = refl
back DuplicateFar = refl
back DuplicateEntry = refl
back Syntax = refl
back NoHeader = refl

small : (f : TopoFault) → fault_order f < 10
small TooMany = omega arith
small DuplicateNode = omega arith
small UnknownNode = omega arith
small OwnAs = omega arith
small BadMetric = omega arith
small DuplicateNear = omega arith
small DuplicateFar = omega arith
small DuplicateEntry = omega arith
small Syntax = omega arith
small NoHeader = omega arith

-- none of the first n rules is broken
record IsClear (breaks : TopoFault → Type 0) (n : ℕ) : Type 0 where
  pub below : (other : TopoFault) → fault_order other < n → ¬ breaks other

clear_none : (breaks : TopoFault → Type 0) → IsClear breaks 0
clear_none breaks = record { below = λ other less b. omega arith }

clear_more : (breaks : TopoFault → Type 0) (f : TopoFault) → ¬ breaks f → IsClear breaks (fault_order f) → IsClear breaks (fault_order f + 1)
clear_more breaks f not_f clear = record {
  below = λ other less b.
      elim (cases_lt (fault_order other) (fault_order f)) [
        | inl lt ↦ clear.below other lt b
        | inr ge ↦ let same : fault_order other ≡ fault_order f = omega arith in not_f (subst breaks (sym (back other) ∙ ap fault_of same ∙ back f) b)
      ];
}

all_clear : (breaks : TopoFault → Type 0) → IsClear breaks 10 → (other : TopoFault) → ¬ breaks other
all_clear breaks clear other = clear.below other (small other)

-- a rule, and those after it where neither it nor one before is broken
rule_or : (breaks : TopoFault → Type 0) (f : TopoFault) (b : Bool) (rest : Option TopoFault) → Decides b (breaks f) → IsClear breaks (fault_order f) →
    (IsClear breaks (fault_order f + 1) → IsFirstRule breaks rest) → IsFirstRule breaks (cond b (Some f) rest)
rule_or breaks f b rest told clear after =
    let go : (t : Bool) → Decides t (breaks f) → IsFirstRule breaks (cond t (Some f) rest) =
    λ t. elim t as (λ u. Decides u (breaks f) → IsFirstRule breaks (cond u (Some f) rest)) [
      | true ↦ λ d. (d.0 refl, clear.below)
      | false ↦ λ d. after (clear_more breaks f (not_from_Decides false d refl) clear)
    ] in
    go b told

-- each rule was found broken exactly where it is
pub record Told (breaks : TopoFault → Type 0) (b : Broken) : Type 0 where
  pub too_many : Decides b.too_many (breaks TooMany)
  pub duplicate_node : Decides b.duplicate_node (breaks DuplicateNode)
  pub unknown_node : Decides b.unknown_node (breaks UnknownNode)
  pub own_as : Decides b.own_as (breaks OwnAs)
  pub bad_metric : Decides b.bad_metric (breaks BadMetric)
  pub duplicate_near : Decides b.duplicate_near (breaks DuplicateNear)
  pub duplicate_far : Decides b.duplicate_far (breaks DuplicateFar)
  pub duplicate_entry : Decides b.duplicate_entry (breaks DuplicateEntry)
  pub syntax : ¬ breaks Syntax
  pub no_header : ¬ breaks NoHeader

first_told : (breaks : TopoFault → Type 0) (b : Broken) → Told breaks b → IsFirstRule breaks (first_broken b)
first_told breaks b told =
    let r7 = cond b.duplicate_entry (Some DuplicateEntry) None in
    let r6 = cond b.duplicate_far (Some DuplicateFar) r7 in
    let r5 = cond b.duplicate_near (Some DuplicateNear) r6 in
    let r4 = cond b.bad_metric (Some BadMetric) r5 in
    let r3 = cond b.own_as (Some OwnAs) r4 in
    let r2 = cond b.unknown_node (Some UnknownNode) r3 in
    let r1 = cond b.duplicate_node (Some DuplicateNode) r2 in
    rule_or breaks TooMany b.too_many r1 told.too_many (clear_none breaks) (λ c1.
    rule_or breaks DuplicateNode b.duplicate_node r2 told.duplicate_node c1 (λ c2.
    rule_or breaks UnknownNode b.unknown_node r3 told.unknown_node c2 (λ c3.
    rule_or breaks OwnAs b.own_as r4 told.own_as c3 (λ c4.
    rule_or breaks BadMetric b.bad_metric r5 told.bad_metric c4 (λ c5.
    rule_or breaks DuplicateNear b.duplicate_near r6 told.duplicate_near c5 (λ c6.
    rule_or breaks DuplicateFar b.duplicate_far r7 told.duplicate_far c6 (λ c7.
    rule_or breaks DuplicateEntry b.duplicate_entry None told.duplicate_entry c7 (λ c8.
    all_clear breaks (clear_more breaks NoHeader told.no_header (clear_more breaks Syntax told.syntax c8))))))))))

-- the row at a place is one alone
at_row : {X : Type 0} (rows : List X) (i : ℕ) (x : X) → slice_get rows i ≡ Some x → (breaks : X → TopoFault → Type 0) (r : Option TopoFault) → IsFirstRule (breaks x) r →
    IsFirstRule (λ f. (y : X) × (slice_get rows i ≡ Some y) × breaks y f) r
at_row {X} rows i x at breaks None first = λ other b. first other (subst (λ y. breaks y other) (same_Some b.0 x (sym b.1 ∙ at)) b.2)
at_row {X} rows i x at breaks (Some f) first = ((x, at, first.0), λ other less b. first.1 other less (subst (λ y. breaks y other) (same_Some b.0 x (sym b.1 ∙ at)) b.2))

-- the first rule that the row at a place breaks
pub first_at : {X : Type 0} (rows : List X) (i : ℕ) (x : X) (breaks : X → TopoFault → Type 0) (b : Broken) (r : Option TopoFault) → slice_get rows i ≡ Some x → Told (breaks x) b →
    r ≡ first_broken b → IsFirstRule (λ f. (y : X) × (slice_get rows i ≡ Some y) × breaks y f) r
first_at {X} rows i x breaks b r at told is =
    at_row rows i x at breaks r (subst (IsFirstRule (breaks x)) (sym is) (first_told (breaks x) b told))
