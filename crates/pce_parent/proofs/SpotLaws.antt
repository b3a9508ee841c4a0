-- Spots that are the same, and the one vertex of a spot.
use Rattle.std.proofs.Common.{◌≡◌, ◌&&◌, ◌==◌, ℕ, Bool, true, false, nat_eq, arith, refl, sym, ◌∙◌, ap}
use Rattle.std.proofs.lemmas.Grind.{common_steps}
use Rattle.pce_common.specs.plant_model.Types.{As, Addr}
use Rattle.dom_base.specs.declared.addr.Addr.TheVariants.{V4, V6}
use Rattle.pce_common.specs.plant_model.BorderGraph.{Vertex, Enter, Leave}
use Rattle.pce_parent.specs.declared.spot.Spot.{Spot}
use Rattle.pce_parent.specs.contracts.spot.SpotPartialEq.TheImpl as derived
use Rattle.pce_parent.specs.Places.{spot_at, spot_of, same_flag, same_spot}

both_true : (a b : Bool) → a && b ≡ true → (a ≡ true) × (b ≡ true)
both_true true b h = (refl, h)
both_true false b h = absurd (let bad : false ≡ true = h in cc)

number_is : (a b : ℕ) → nat_eq a b ≡ true → a ≡ b
number_is a b h = grind (arith, common_steps)

same_number : (n : ℕ) → nat_eq n n ≡ true
same_number n = grind (arith, common_steps)

same_flag_is : (a b : Bool) → same_flag a b ≡ true → a ≡ b
same_flag_is true b h = sym h
same_flag_is false true h = h
same_flag_is false false h = refl

same_flag_self : (a : Bool) → same_flag a a ≡ true
same_flag_self true = refl
same_flag_self false = refl

with_fields : Bool → ℕ → Bool → ℕ → Spot
with_fields leaves own wide number = record { leaves = leaves; own = record { 0 = own }; wide = wide; number = number }

pub same_spot_is : (a b : Spot) → same_spot a b ≡ true → a ≡ b
unfolding with_fields
same_spot_is a b h =
    let one = both_true (same_flag a.leaves b.leaves) ((a.own.0 == b.own.0) && (same_flag a.wide b.wide && (a.number == b.number))) h in
    let two = both_true (a.own.0 == b.own.0) (same_flag a.wide b.wide && (a.number == b.number)) one.1 in
    let three = both_true (same_flag a.wide b.wide) (a.number == b.number) two.1 in
    ap (λ (x : Bool). with_fields x a.own.0 a.wide a.number) (same_flag_is a.leaves b.leaves one.0)
    ∙ ap (λ (x : ℕ). with_fields b.leaves x a.wide a.number) (number_is a.own.0 b.own.0 two.0)
    ∙ ap (λ (x : Bool). with_fields b.leaves b.own.0 x a.number) (same_flag_is a.wide b.wide three.0)
    ∙ ap (λ (x : ℕ). with_fields b.leaves b.own.0 b.wide x) (number_is a.number b.number three.1)

pub same_spot_self : (a : Spot) → same_spot a a ≡ true
same_spot_self a = rw (same_flag_self a.leaves, same_number a.own.0, same_flag_self a.wide, same_number a.number) refl

derived_at : (l m : Bool) (a b : ℕ) (w v : Bool) (x y : ℕ) →
    derived.eq-value.it (with_fields l a w x) (with_fields m b v y) ≡ same_spot (with_fields l a w x) (with_fields m b v y)
unfolding with_fields
derived_at true true a b true true x y = refl
derived_at true true a b true false x y = refl
derived_at true true a b false true x y = refl
derived_at true true a b false false x y = refl
derived_at true false a b w v x y = refl
derived_at false true a b w v x y = refl
derived_at false false a b true true x y = refl
derived_at false false a b true false x y = refl
derived_at false false a b false true x y = refl
derived_at false false a b false false x y = refl

-- the derived comparison is this one
pub derived_is : derived.eq-value.it ≡ same_spot
unfolding with_fields
derived_is = λ i. λ a b. derived_at a.leaves b.leaves a.own.0 b.own.0 a.wide b.wide a.number b.number i

one_address : (l m : Bool) (a b : As) (n k : Addr) → spot_at l a n ≡ spot_at m b k → (l ≡ m) × (a ≡ b) × (n ≡ k)
one_address l m a b (V4 n) (V4 k) is = (ap (λ (s : Spot). s.leaves) is, ap (λ (s : Spot). s.own) is, ap (λ (s : Spot). V4 s.number) is)
one_address l m a b (V6 n) (V6 k) is = (ap (λ (s : Spot). s.leaves) is, ap (λ (s : Spot). s.own) is, ap (λ (s : Spot). V6 s.number) is)
one_address l m a b (V4 n) (V6 k) is = absurd (let bad : false ≡ true = ap (λ (s : Spot). s.wide) is in cc)
one_address l m a b (V6 n) (V4 k) is = absurd (let bad : true ≡ false = ap (λ (s : Spot). s.wide) is in cc)

-- a spot is that of one vertex
pub one_vertex : (v u : Vertex) → spot_of v ≡ spot_of u → v ≡ u
one_vertex (Enter a n) (Enter b k) is =
    let parts = one_address false false a b n k is in
    ap (λ (x : As). Enter x n) parts.1 ∙ ap (λ (x : Addr). Enter b x) parts.2
one_vertex (Leave a n) (Leave b k) is =
    let parts = one_address true true a b n k is in
    ap (λ (x : As). Leave x n) parts.1 ∙ ap (λ (x : Addr). Leave b x) parts.2
one_vertex (Enter a n) (Leave b k) is = absurd (let bad : false ≡ true = (one_address false true a b n k is).0 in cc)
one_vertex (Leave a n) (Enter b k) is = absurd (let bad : true ≡ false = (one_address true false a b n k is).0 in cc)
