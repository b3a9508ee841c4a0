-- How many arcs in use begin and end at each node, as arcs are put into use and taken out of use along a path.
use Rattle.std.proofs.Common.{◌≡◌, ◌⊎◌, inl, inr, ℕ, zero, suc, ◌+◌, ◌<◌, ◌≤◌, ◌==◌, Bool, true, false, not, List, [], ◌∷◌, length, arith, refl, sym, ◌∙◌, ap, subst, None, Some, if◌then◌else◌}
use Rattle.std.specs.Prelude.{slice_set, slice_index_or}
use Rattle.std.specs.declared.option.Option.{Option}
use Rattle.std.proofs.lemmas.Bool.{cases_lt}
use Rattle.std.proofs.lemmas.Bool.Decides.{eqb_tells}
use Rattle.std.proofs.lemmas.List.{get_or-set_same, get_or-set_other, get_or_past}
use Rattle.std.proofs.Math.ListN.{length-set}
use Rattle.diverse_pairs.specs.declared.arcs.Arc.{Arc}
use Rattle.diverse_pairs.specs.Arcs.{IsArc, at, is_used, HasArcFrom}
use Rattle.diverse_pairs.specs.Paths.{Goes, LeadsOn, Falling, turned}

-- 1 at a node, and 0 elsewhere
abbrev pub one_at : ℕ → ℕ → ℕ
one_at m n = if m == n then 1 else 0

pub one_same : (m n : ℕ) → m ≡ n → one_at m n ≡ 1
one_same m n is = elim (eqb_tells m n) [ inl t ↦ rw t.0 refl | inr f ↦ absurd (f.1 is) ]

pub one_other : (m n : ℕ) → (m ≡ n → ⊥) → one_at m n ≡ 0
one_other m n is = elim (eqb_tells m n) [ inl t ↦ absurd (is t.1) | inr f ↦ rw f.0 refl ]

-- what an arc adds at a node where it is in use
abbrev pub mark : (Arc → ℕ) → Option Arc → Bool → ℕ → ℕ
mark end None used n = 0
mark end (Some a) false n = 0
mark end (Some a) true n = one_at (end a) n

-- how many arcs in use have their end at the node
abbrev pub ends : (Arc → ℕ) → List (Option Arc) → List Bool → ℕ → ℕ
ends end [] us n = 0
ends end (o ∷ os) [] n = 0
ends end (o ∷ os) (u ∷ us) n = mark end o u n + ends end os us n

abbrev pub tails : List (Option Arc) → List Bool → ℕ → ℕ
tails = ends (λ a. a.tail)

abbrev pub heads : List (Option Arc) → List Bool → ℕ → ℕ
heads = ends (λ a. a.head)

-- one flag is set
ends_set : (end : Arc → ℕ) (os : List (Option Arc)) (us : List Bool) (n i : ℕ) (b : Bool) → i < length os → length us ≡ length os →
    ends end os (slice_set us i b) n + mark end (slice_index_or os i None) (is_used us i) n ≡ ends end os us n + mark end (slice_index_or os i None) b n
ends_set end [] us n i b inside long = absurd (omega arith)
ends_set end (o ∷ os) [] n i b inside long = absurd (omega arith)
ends_set end (o ∷ os) (u ∷ us) n zero b inside long = omega arith
ends_set end (o ∷ os) (u ∷ us) n (suc i) b inside long = let rest = ends_set end os us n i b (omega arith) (omega arith) in omega (arith, rest)

-- an arc in use that ends there counts
pub counts : (end : Arc → ℕ) (os : List (Option Arc)) (us : List Bool) (n i : ℕ) (a : Arc) → IsArc os i a → is_used us i ≡ true → end a ≡ n → 1 ≤ ends end os us n
counts end [] us n i a is used at_n = absurd (let e : None ≡ Some a = is in cc)
counts end (o ∷ os) [] n i a is used at_n = absurd (let e : false ≡ true = used in cc)
counts end (o ∷ os) (u ∷ us) n zero a is used at_n = rw (is, used) (omega (arith, one_same (end a) n at_n))
counts end (o ∷ os) (u ∷ us) n (suc i) a is used at_n = let rest = counts end os us n i a is used at_n in omega (arith, rest)

pub record Counted (end : Arc → ℕ) (os : List (Option Arc)) (us : List Bool) (n : ℕ) : Type 0 where
  pub place : ℕ
  pub arc : Arc
  pub is_arc : IsArc os place arc
  pub used : is_used us place ≡ true
  pub ends : end arc ≡ n

-- and what counts is such an arc
pub counted : (end : Arc → ℕ) (os : List (Option Arc)) (us : List Bool) (n : ℕ) → 1 ≤ ends end os us n → Counted end os us n
counted end [] us n some = absurd (omega (arith, some))
counted end (o ∷ os) [] n some = absurd (omega (arith, some))
counted end (o ∷ os) (u ∷ us) n some = first o u (λ any. counted end os us n any) some
  where
    further : (p : Option Arc) (v : Bool) → Counted end os us n → Counted end (p ∷ os) (v ∷ us) n
    further p v c = record { place = suc c.place; arc = c.arc; is_arc = c.is_arc; used = c.used; ends = c.ends }

    first : (p : Option Arc) (v : Bool) → (1 ≤ ends end os us n → Counted end os us n) → 1 ≤ mark end p v n + ends end os us n → Counted end (p ∷ os) (v ∷ us) n
    first None v rest any = further None v (rest (omega (arith, any)))
    first (Some a) false rest any = further (Some a) false (rest (omega (arith, any)))
    first (Some a) true rest any = elim (eqb_tells (end a) n) [
      | inl t ↦ record { place = 0; arc = a; is_arc = refl; used = refl; ends = t.1 }
      | inr f ↦ further (Some a) true (rest (omega (arith, any, one_other (end a) n f.1)))
    ]

pub none_in_use : (end : Arc → ℕ) (os : List (Option Arc)) (us : List Bool) (n : ℕ) → ((i : ℕ) → is_used us i ≡ false) → ends end os us n ≡ 0
none_in_use end [] us n none = refl
none_in_use end (o ∷ os) [] n none = refl
none_in_use end (None ∷ os) (u ∷ us) n none = let rest = none_in_use end os us n (λ i. none (suc i)) in omega (arith, rest)
none_in_use end (Some a ∷ os) (u ∷ us) n none = let rest = none_in_use end os us n (λ i. none (suc i)) in rw (none 0) (omega (arith, rest))

-- As many arcs in use begin at each node as end there, when A is added here and B there.
abbrev pub Balances : List (Option Arc) → List Bool → (ℕ → ℕ) → (ℕ → ℕ) → Type 0
Balances arcs us A B = (n : ℕ) → tails arcs us n + A n ≡ heads arcs us n + B n

abbrev pub plus : (ℕ → ℕ) → ℕ → ℕ → ℕ
plus A v n = A n + one_at v n

-- an arc is put into use
put_in : (arcs : List (Option Arc)) (us : List Bool) (i : ℕ) (a : Arc) (A B : ℕ → ℕ) → length us ≡ length arcs → i < length arcs → IsArc arcs i a → is_used us i ≡ false → Balances arcs us A B →
    Balances arcs (slice_set us i true) (plus A a.head) (plus B a.tail)
put_in arcs us i a A B long inside is_arc unused balances n =
    let t : tails arcs (slice_set us i true) n + mark (λ b. b.tail) (slice_index_or arcs i None) (is_used us i) n ≡ tails arcs us n + mark (λ b. b.tail) (slice_index_or arcs i None) true n =
    ends_set (λ b. b.tail) arcs us n i true inside long in
    let h : heads arcs (slice_set us i true) n + mark (λ b. b.head) (slice_index_or arcs i None) (is_used us i) n ≡ heads arcs us n + mark (λ b. b.head) (slice_index_or arcs i None) true n =
    ends_set (λ b. b.head) arcs us n i true inside long in
    omega (arith, rw (is_arc, unused) at t, rw (is_arc, unused) at h, balances n)

-- an arc is taken out of use
take_out : (arcs : List (Option Arc)) (us : List Bool) (i : ℕ) (a : Arc) (A B : ℕ → ℕ) → length us ≡ length arcs → i < length arcs → IsArc arcs i a → is_used us i ≡ true → Balances arcs us A B →
    Balances arcs (slice_set us i false) (plus A a.tail) (plus B a.head)
take_out arcs us i a A B long inside is_arc used balances n =
    let t : tails arcs (slice_set us i false) n + mark (λ b. b.tail) (slice_index_or arcs i None) (is_used us i) n ≡ tails arcs us n + mark (λ b. b.tail) (slice_index_or arcs i None) false n =
    ends_set (λ b. b.tail) arcs us n i false inside long in
    let h : heads arcs (slice_set us i false) n + mark (λ b. b.head) (slice_index_or arcs i None) (is_used us i) n ≡ heads arcs us n + mark (λ b. b.head) (slice_index_or arcs i None) false n =
    ends_set (λ b. b.head) arcs us n i false inside long in
    omega (arith, rw (is_arc, used) at t, rw (is_arc, used) at h, balances n)

-- ---- along a path

-- an arc beside those in use: as it leads where it isn't in use, and turned round where it is
pub record IsAlong (arcs : List (Option Arc)) (us : List Bool) (i : ℕ) (r : Arc) : Type 0 where
  pub arc : Arc
  pub is_arc : IsArc arcs i arc
  pub straight : is_used us i ≡ false → (r.tail ≡ arc.tail) × (r.head ≡ arc.head)
  pub back : is_used us i ≡ true → (r.tail ≡ arc.head) × (r.head ≡ arc.tail)

abbrev pub RunsAlong : List (Option Arc) → List Bool → List (Option Arc) → Type 0
RunsAlong arcs us rs = (i : ℕ) (r : Arc) → IsArc rs i r → IsAlong arcs us i r

-- a place stands among places
abbrev pub Among : List ℕ → ℕ → Type 0
Among [] j = ⊥
Among (i ∷ is) j = (i ≡ j) ⊎ Among is j

-- none stands twice
abbrev pub Fresh : List ℕ → Type 0
Fresh [] = Unit {0}
Fresh (i ∷ is) = (¬ Among is i) × Fresh is

arc_inside : (arcs : List (Option Arc)) (j : ℕ) (a : Arc) → IsArc arcs j a → j < length arcs
arc_inside arcs j a is = elim (cases_lt j (length arcs)) [
  | inl lt ↦ lt
  | inr ge ↦ let none : None ≡ Some a = sym (get_or_past arcs j None ge) ∙ is in cc
]

one_turn : (arcs : List (Option Arc)) (us0 us : List Bool) (i : ℕ) (r : Arc) (A B : ℕ → ℕ) → IsAlong arcs us0 i r → length us ≡ length arcs → is_used us i ≡ is_used us0 i → Balances arcs us A B →
    Balances arcs (slice_set us i (not (is_used us i))) (plus A r.head) (plus B r.tail)
one_turn arcs us0 us i r A B along long same balances = go (is_used us i) refl
  where
    inside : i < length arcs
    inside = arc_inside arcs i along.arc along.is_arc

    go : (b : Bool) → is_used us i ≡ b → Balances arcs (slice_set us i (not (is_used us i))) (plus A r.head) (plus B r.tail)
    go false is n =
        let ends = along.straight (sym same ∙ is) in
        let one : Balances arcs (slice_set us i true) (plus A along.arc.head) (plus B along.arc.tail) = put_in arcs us i along.arc A B long inside along.is_arc is balances in
        rw is (omega (arith, one n, ap (λ m. one_at m n) ends.0, ap (λ m. one_at m n) ends.1))
    go true is n =
        let ends = along.back (sym same ∙ is) in
        let one : Balances arcs (slice_set us i false) (plus A along.arc.tail) (plus B along.arc.head) = take_out arcs us i along.arc A B long inside along.is_arc is balances in
        rw is (omega (arith, one n, ap (λ m. one_at m n) ends.0, ap (λ m. one_at m n) ends.1))

-- a path from u to t that is turned adds one way from u to t
pub path_turned : (arcs rs : List (Option Arc)) (us0 marks : List Bool) (t : ℕ) → RunsAlong arcs us0 rs → (is : List ℕ) (u : ℕ) (us : List Bool) (A B : ℕ → ℕ) → Goes rs marks u is t → Fresh is →
    ((j : ℕ) → Among is j → is_used us j ≡ is_used us0 j) → length us ≡ length arcs → Balances arcs us A B → Balances arcs (turned us is) (plus A t) (plus B u)
path_turned arcs rs us0 marks t along [] u us A B goes fresh same long balances n = omega (arith, balances n, ap (λ m. one_at m n) goes)
path_turned arcs rs us0 marks t along (i ∷ is) u us A B goes fresh same long balances n =
    let step = goes.2 in
    let r = step.arc in
    let next : List Bool = slice_set us i (not (is_used us i)) in
    let one : Balances arcs next (plus A r.head) (plus B r.tail) = one_turn arcs us0 us i r A B (along i r step.is_arc) long (same i (inl refl)) balances in
    let rest = path_turned arcs rs us0 marks t along is goes.1 next (plus A r.head) (plus B r.tail) goes.3 fresh.1
    (λ j among. get_or-set_other us i j (not (is_used us i)) false (λ bad. fresh.0 (subst (Among is) bad among)) ∙ same j (inr among))
    (length-set us i (not (is_used us i)) ∙ long) one n in
    omega (arith, rest, ap (λ m. one_at m n) step.tail, ap (λ m. one_at m n) step.same_head)

-- a path from u to t that is taken out of use takes one such way off
pub path_taken : (arcs : List (Option Arc)) (us0 : List Bool) (t : ℕ) → (is : List ℕ) (u : ℕ) (us : List Bool) (A B : ℕ → ℕ) → Goes arcs us0 u is t → Fresh is →
    ((j : ℕ) → Among is j → is_used us j ≡ is_used us0 j) → length us ≡ length arcs → Balances arcs us A B → Balances arcs (turned us is) (plus A u) (plus B t)
path_taken arcs us0 t [] u us A B goes fresh same long balances n = omega (arith, balances n, ap (λ m. one_at m n) goes)
path_taken arcs us0 t (i ∷ is) u us A B goes fresh same long balances n =
    let step = goes.2 in
    let a = step.arc in
    let used : is_used us i ≡ true = same i (inl refl) ∙ step.used in
    let next : List Bool = slice_set us i (not (is_used us i)) in
    let is_next : slice_set us i false ≡ next = ap (λ (b : Bool). slice_set us i (not b)) (sym used) in
    let one : Balances arcs next (plus A a.tail) (plus B a.head) =
    subst (λ (v : List Bool). Balances arcs v (plus A a.tail) (plus B a.head)) is_next (take_out arcs us i a A B long (arc_inside arcs i a step.is_arc) step.is_arc used balances) in
    let rest = path_taken arcs us0 t is goes.1 next (plus A a.tail) (plus B a.head) goes.3 fresh.1
    (λ j among. get_or-set_other us i j (not (is_used us i)) false (λ bad. fresh.0 (subst (Among is) bad among)) ∙ same j (inr among))
    (length-set us i (not (is_used us i)) ∙ long) one n in
    omega (arith, rest, ap (λ m. one_at m n) step.tail, ap (λ m. one_at m n) step.same_head)

-- where no fewer arcs in use begin than end at each node, they lead on
pub leads_on : (arcs : List (Option Arc)) (us : List Bool) (s t : ℕ) → ((n : ℕ) → (n ≡ t → ⊥) → heads arcs us n + one_at s n ≤ tails arcs us n) → LeadsOn arcs us s t
leads_on arcs us s t enough n other stands = made (counted (λ a. a.tail) arcs us n (elim stands [
  | inl same ↦ omega (arith, enough n other, one_same s n (sym same))
  | inr into ↦ omega (arith, enough n other, counts (λ a. a.head) arcs us n into.place into.arc into.is_arc into.used into.head)
]))
  where
    made : Counted (λ a. a.tail) arcs us n → HasArcFrom arcs us n
    made c = record { place = c.place; arc = c.arc; is_arc = c.is_arc; used = c.used; tail = c.ends }

-- arcs in use that go round, and fall, are none
pub none_left : (arcs : List (Option Arc)) (us : List Bool) (hs : List ℕ) → Falling arcs us hs → ((n : ℕ) → tails arcs us n ≡ heads arcs us n) → (k i : ℕ) (a : Arc) → at hs a.tail < k → IsArc arcs i a → is_used us i ≡ true → ⊥
none_left arcs us hs falling even zero i a less is_arc used = omega (arith, less)
none_left arcs us hs falling even (suc k) i a less is_arc used =
    let c = counted (λ b. b.tail) arcs us a.head (omega (arith, even a.head, counts (λ b. b.head) arcs us a.head i a is_arc used refl)) in
    none_left arcs us hs falling even k c.place c.arc (omega (arith, falling i a is_arc used, ap (at hs) c.ends, less)) c.is_arc c.used

-- ---- the arcs of a path

pub record Lies (arcs : List (Option Arc)) (us : List Bool) (hs : List ℕ) (u i : ℕ) : Type 0 where
  pub arc : Arc
  pub is_arc : IsArc arcs i arc
  pub used : is_used us i ≡ true
  pub no_higher : at hs arc.tail ≤ at hs u

pub lies : (arcs : List (Option Arc)) (us : List Bool) (hs : List ℕ) (t : ℕ) → Falling arcs us hs → (is : List ℕ) (u j : ℕ) → Goes arcs us u is t → Among is j → Lies arcs us hs u j
lies arcs us hs t falling [] u j goes among = absurd among
lies arcs us hs t falling (i ∷ is) u j goes (inl same) =
    let step = goes.2 in
    record { arc = step.arc; is_arc = subst (λ k. IsArc arcs k step.arc) same step.is_arc; used = subst (λ k. is_used us k ≡ true) same step.used; no_higher = omega (arith, ap (at hs) step.tail) }
lies arcs us hs t falling (i ∷ is) u j goes (inr among) =
    let step = goes.2 in
    let rest = lies arcs us hs t falling is goes.1 j goes.3 among in
    let down = falling i step.arc step.is_arc step.used in
    record { arc = rest.arc; is_arc = rest.is_arc; used = rest.used; no_higher = omega (arith, rest.no_higher, down, ap (at hs) step.tail, ap (at hs) step.same_head) }

pub fresh : (arcs : List (Option Arc)) (us : List Bool) (hs : List ℕ) (t : ℕ) → Falling arcs us hs → (is : List ℕ) (u : ℕ) → Goes arcs us u is t → Fresh is
fresh arcs us hs t falling [] u goes = tt
fresh arcs us hs t falling (i ∷ is) u goes = (
  λ among.
      let step = goes.2 in
      let l = lies arcs us hs t falling is goes.1 i goes.3 among in
      let both : Some step.arc ≡ Some l.arc = sym step.is_arc ∙ l.is_arc in
      let one : step.arc ≡ l.arc = cc in
      omega (arith, falling i step.arc step.is_arc step.used, l.no_higher, ap (at hs) step.same_head, ap (λ (a : Arc). at hs a.tail) one),
  fresh arcs us hs t falling is goes.1 goes.3,
)

pub length_turned : (is : List ℕ) (us : List Bool) → length (turned us is) ≡ length us
length_turned [] us = refl
length_turned (i ∷ is) us = length_turned is (slice_set us i (not (is_used us i))) ∙ length-set us i (not (is_used us i))

-- a turned place has the other flag, and each other place the same
pub turned_other : (is : List ℕ) (us : List Bool) (j : ℕ) → ¬ Among is j → is_used (turned us is) j ≡ is_used us j
turned_other [] us j lacks = refl
turned_other (i ∷ is) us j lacks =
    turned_other is (slice_set us i (not (is_used us i))) j (λ among. lacks (inr among))
    ∙ get_or-set_other us i j (not (is_used us i)) false (λ same. lacks (inl (sym same)))

pub turned_at : (is : List ℕ) (us : List Bool) (j : ℕ) → Fresh is → j < length us → Among is j → is_used (turned us is) j ≡ not (is_used us j)
turned_at [] us j fresh inside among = absurd among
turned_at (i ∷ is) us j fresh inside (inl same) =
    let next : List Bool = slice_set us i (not (is_used us i)) in
    turned_other is next j (λ among. fresh.0 (subst (Among is) (sym same) among))
    ∙ subst (λ k. is_used next k ≡ not (is_used us k)) same (get_or-set_same us i (not (is_used us i)) false (omega (arith, inside, same)))
turned_at (i ∷ is) us j fresh inside (inr among) =
    let next : List Bool = slice_set us i (not (is_used us i)) in
    turned_at is next j fresh.1 (omega (arith, inside, length-set us i (not (is_used us i)))) among
    ∙ ap not (get_or-set_other us i j (not (is_used us i)) false (λ same. fresh.0 (subst (Among is) same among)))
