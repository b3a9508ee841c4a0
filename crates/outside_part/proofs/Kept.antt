-- A row is kept of a path exactly where the relation says so.
use Rattle.std.proofs.Common.{◌≡◌, ◌∙◌, ◌≤◌, ◌==◌, ◌&&◌, ℕ, Bool, true, false, not, cond, nat_le, List, [], ◌∷◌, length, Option, Some, None, refl, sym, ap, subst, arith}
use Rattle.std.specs.List.{AllByRecursion, list_all}
use Rattle.std.proofs.lemmas.Bool.{eqb-true, eq-eqb, leb-true, le-leb}
use Rattle.dom_base.specs.declared.addr.Addr.{Addr}
use Rattle.dom_base.specs.declared.limits.TheConstants.{COST_MAX}
use Rattle.pcep_codes.specs.declared.metrics.TheConstants as metrics
use Rattle.pcep_subobjects.specs.Addresses.{bits_of}
use Rattle.pcep_subobjects.specs.declared.hop.Hop.{Hop}
use Rattle.pcep_subobjects.specs.declared.hop.Hop.TheVariants.{Prefix, AsNumber, Key, Other}
use Rattle.pcep_messages.specs.Refusals.{is_metric}
use Rattle.pcep_messages.specs.declared.message.Path.{Path}
use Rattle.outside_part.specs.declared.reported.Reported.{Reported}
use Rattle.outside_part.specs.Sifting.{is_plain, are_plain, entry_of, cost_of, measured, row_by, row_by_metric, row_of}
use Rattle.outside_part.specs.Rows.{IsPlain, BeginsAt, IsKept}
use Rattle.outside_part.proofs.Inserting.{both_true}

pub none_is_some : {A : Type 0} (x : A) → ◌≡◌ {A = Option A} None (Some x) → ⊥
none_is_some x is = cc

pub same_some : {A : Type 0} (x y : A) → Some x ≡ Some y → x ≡ y
same_some x y is = cc

no_truth : false ≡ true → ⊥
no_truth is = cc

not_true : (b : Bool) → not b ≡ true → b ≡ false
not_true true is = absurd (no_truth is)
not_true false is = refl

true_not : (b : Bool) → b ≡ false → not b ≡ true
true_not true is = absurd (no_truth (sym is))
true_not false is = refl

both_from : (a b : Bool) → a ≡ true → b ≡ true → (a && b) ≡ true
both_from a b is is' = ap (λ (c : Bool). c && b) is ∙ is'

-- ---- hops

plain_is : (h : Hop) → is_plain h ≡ true → IsPlain h
plain_is (Prefix loose addr length) is =
    let p = both_true (not loose) (length == bits_of addr) is in
    (not_true loose p.0, eqb-true length (bits_of addr) p.1)
plain_is (AsNumber loose number) is = no_truth is
plain_is (Key loose key pce) is = not_true loose is
plain_is (Other loose kind body) is = no_truth is

is_so : (h : Hop) → IsPlain h → is_plain h ≡ true
is_so (Prefix loose addr length) plain = both_from (not loose) (length == bits_of addr) (true_not loose plain.0) (eq-eqb length (bits_of addr) plain.1)
is_so (AsNumber loose number) plain = absurd plain
is_so (Key loose key pce) plain = true_not loose plain
is_so (Other loose kind body) plain = absurd plain

all_plain : (hops : List Hop) → list_all is_plain hops ≡ true → AllByRecursion IsPlain hops
all_plain [] is = tt
all_plain (h ∷ hops) is = let p = both_true (is_plain h) (list_all is_plain hops) is in (plain_is h p.0, all_plain hops p.1)

all_so : (hops : List Hop) → AllByRecursion IsPlain hops → list_all is_plain hops ≡ true
all_so [] plain = refl
all_so (h ∷ hops) plain = both_from (is_plain h) (list_all is_plain hops) (is_so h plain.0) (all_so hops plain.1)

begins : (hops : List Hop) (entry : Addr) → entry_of hops ≡ Some entry → BeginsAt entry hops
begins [] entry is = none_is_some entry is
begins (Prefix loose addr length ∷ hops) entry is = same_some entry addr (sym is)
begins (AsNumber loose number ∷ hops) entry is = none_is_some entry is
begins (Key loose key pce ∷ hops) entry is = none_is_some entry is
begins (Other loose kind body ∷ hops) entry is = none_is_some entry is

begun : (hops : List Hop) (entry : Addr) → BeginsAt entry hops → entry_of hops ≡ Some entry
begun [] entry at = absurd at
begun (Prefix loose addr length ∷ hops) entry at = ap (λ (a : Addr). Some a) (sym at)
begun (AsNumber loose number ∷ hops) entry at = absurd at
begun (Key loose key pce ∷ hops) entry at = absurd at
begun (Other loose kind body ∷ hops) entry at = absurd at

not_empty : (hops : List Hop) (entry : Addr) → BeginsAt entry hops → 1 ≤ length hops
not_empty [] entry at = absurd at
not_empty (h ∷ hops) entry at = omega arith

-- ---- measures

record IsMeasured (units : ℕ → Option ℕ) (kind word cost : ℕ) : Type 0 where
  low : 1 ≤ kind
  high : kind ≤ 3
  means : units word ≡ Some cost
  small : cost ≤ COST_MAX

is_cost : (o : Option ℕ) (cost : ℕ) → cost_of o ≡ Some cost → (o ≡ Some cost) × (cost ≤ COST_MAX)
is_cost None cost is = absurd (none_is_some cost is)
is_cost (Some n) cost is = go (nat_le n COST_MAX) refl is
  where
    go : (b : Bool) → nat_le n COST_MAX ≡ b → cond b (Some n) None ≡ Some cost → (Some n ≡ Some cost) × (cost ≤ COST_MAX)
    go true le e = (e, subst (λ (k : ℕ). k ≤ COST_MAX) (same_some n cost e) (leb-true n COST_MAX le))
    go false other e = absurd (none_is_some cost e)

measured_is : (units : ℕ → Option ℕ) (kind word cost : ℕ) → measured units kind word ≡ Some cost → IsMeasured units kind word cost
measured_is units kind word cost is = go (is_metric kind) refl is
  where
    go : (b : Bool) → is_metric kind ≡ b → cond b (cost_of (units word)) None ≡ Some cost → IsMeasured units kind word cost
    go true type e =
        let p = both_true (nat_le metrics.IGP kind) (nat_le kind metrics.HOPS) type in
        let c = is_cost (units word) cost e in
        record { low = leb-true 1 kind p.0; high = leb-true kind 3 p.1; means = c.0; small = c.1 }
    go false type e = absurd (none_is_some cost e)

measures : (units : ℕ → Option ℕ) (kind word cost : ℕ) → 1 ≤ kind → kind ≤ 3 → units word ≡ Some cost → cost ≤ COST_MAX → measured units kind word ≡ Some cost
measures units kind word cost low high is small =
    ap (λ (b : Bool). cond b (cost_of (units word)) None) (both_from (nat_le metrics.IGP kind) (nat_le kind metrics.HOPS) (le-leb 1 kind low) (le-leb kind 3 high))
    ∙ ap cost_of is ∙ ap (λ (b : Bool). cond b (Some cost) None) (le-leb cost COST_MAX small)

-- ---- rows

module _ (units : ℕ → Option ℕ) (most : ℕ) (p : Path) where
  pub kept : (r : Reported) → row_of units most p ≡ Some r → IsKept units most p r
  kept r is = go (are_plain most p.hops) refl is
    where
      made : (kind word : ℕ) → p.metric ≡ Some (kind, word) → are_plain most p.hops ≡ true → (e : Option Addr) → entry_of p.hops ≡ e → (c : Option ℕ) → measured units kind word ≡ c →
          row_by p.hops kind e c ≡ Some r → IsKept units most p r
      made kind word metric plain None at c says is = absurd (none_is_some r is)
      made kind word metric plain (Some entry) at None says is = absurd (none_is_some r is)
      made kind word metric plain (Some entry) at (Some cost) says is =
          let row : Reported = record { entry = entry; kind = kind; cost = cost; hops = p.hops } in
          let both = both_true (nat_le (length p.hops) most) (list_all is_plain p.hops) plain in
          let at_entry = begins p.hops entry at in
          let m = measured_is units kind word cost says in
          subst (λ (s : Reported). IsKept units most p s) (same_some row r is) (record {
            hops = refl;
            some = not_empty p.hops entry at_entry;
            few = leb-true (length p.hops) most both.0;
            plain = all_plain p.hops both.1;
            entry = at_entry;
            word = word;
            metric = metric;
            kind = (m.low, m.high);
            cost = m.means;
            small = m.small;
          })

      with_metric : (o : Option (ℕ × ℕ)) → p.metric ≡ o → are_plain most p.hops ≡ true → row_by_metric units p.hops o ≡ Some r → IsKept units most p r
      with_metric None metric plain is = absurd (none_is_some r is)
      with_metric (Some m) metric plain is = made m.0 m.1 metric plain (entry_of p.hops) refl (measured units m.0 m.1) refl is

      go : (b : Bool) → are_plain most p.hops ≡ b → cond b (row_by_metric units p.hops p.metric) None ≡ Some r → IsKept units most p r
      go true plain e = with_metric p.metric refl plain e
      go false plain e = absurd (none_is_some r e)

  pub gives : (r : Reported) → IsKept units most p r → row_of units most p ≡ Some r
  gives r k =
      let plain = both_from (nat_le (length p.hops) most) (list_all is_plain p.hops) (le-leb (length p.hops) most k.few) (all_so p.hops k.plain) in
      let made : List Hop → Option Reported = λ hops. Some (record { entry = r.entry; kind = r.kind; cost = r.cost; hops = hops }) in
      ap (λ (b : Bool). cond b (row_by_metric units p.hops p.metric) None) plain
      ∙ ap (λ (o : Option (ℕ × ℕ)). row_by_metric units p.hops o) k.metric
      ∙ ap (λ (e : Option Addr). row_by p.hops r.kind e (measured units r.kind k.word)) (begun p.hops r.entry k.entry)
      ∙ ap (λ (c : Option ℕ). row_by p.hops r.kind (Some r.entry) c) (measures units r.kind k.word r.cost k.kind.0 k.kind.1 k.cost k.small)
      ∙ ap made (sym k.hops)

  -- one path makes one row
  pub one_row : (r s : Reported) → IsKept units most p r → IsKept units most p s → r ≡ s
  one_row r s one other = same_some r s (sym (gives r one) ∙ gives s other)
