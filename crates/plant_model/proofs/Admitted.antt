-- What an admitted request is like.
use Rattle.std.proofs.Common.{◌≡◌, ◌≢◌, ◌⊎◌, ◌≤◌, ℕ, suc, Bool, true, false, cond, ◌==◌, not, nat_le, min, List, [], ◌∷◌, length, map, Option, Some, None, option_map, sym, ◌∙◌, ap, subst, inl, inr, refl, arith}
use Rattle.std.specs.Prelude.{All, AllPairs, is_none, unwrap_or, bit_and}
use Rattle.std.specs.Option.{option_or}
use Rattle.std.specs.List.{list_all, cons_option}
use Rattle.std.proofs.lemmas.Bool.{leb-true, eqb-true, eqb-false, and_parts, or_parts, not-true, not-false}
use Rattle.std.proofs.lemmas.List.{length-map}
use Rattle.std.proofs.lemmas.List.Elements.{All-nil, All-cons}
use Rattle.std.proofs.lemmas.List.Kept.{AllPairs-cons}
use Rattle.plant_model.specs.Types.{As, Addr, Hop, Object, Asked, Request, Wanted, Wish}
use Rattle.dom_base.specs.declared.limits.TheConstants.{COST_MAX}
use Rattle.dom_base.specs.Words.{whole}
use Rattle.pcep_subobjects.specs.declared.hop.Hop.TheVariants as hops
use Rattle.pcep_messages.specs.declared.message.Wish.TheVariants.{Path, Expand}
use Rattle.pcep_messages.specs.Said.{rp_of, end_points_of, metrics_of, iro_of, xro_of, key_of, asks_key}
use Rattle.pcep_codes.specs.declared.errors.TheConstants as errors
use Rattle.pcep_messages.specs.Refusals.{Reason, because, first_of, request_rules, path_rules, unsupported_among, is_optional, has_no_number, are_measures, can_exclude, can_follow, refusal_of, is_domain, domain_in, domains, has_twice, begins_with, among}
use Rattle.pcep_messages.specs.Requests.{without_bit, bound_of, cap_of, sequence_of, wanted_of, wish_of}
use Rattle.plant_model.specs.Wire.{Admitted, Wrong}
use Rattle.plant_model.specs.RealWire.{checked, check_of, wire}
use Rattle.plant_model.specs.Laws.{Admits, IsSequence}

-- ---- no refusal

none_said : (a b : Reason) → option_or a b ≡ None → (a ≡ None) × (b ≡ None)
none_said (Some x) b e = absurd cc
none_said None b e = (refl, e)

not_so : (b : Bool) (error : ℕ × ℕ) → because b error ≡ None → b ≡ false
not_so true error e = absurd cc
not_so false error e = refl

-- what the rules leave of a request for a path
pub record Passes (own : ℕ) (os : List Object) : Type 0 where
  pub number : has_no_number (rp_of os) ≡ false
  pub measures : are_measures os ≡ true
  pub excludes : can_exclude (xro_of os) ≡ true
  pub follows : can_follow own (iro_of os) ≡ true

pub passes : (own : ℕ) (os : List Object) → refusal_of own os ≡ None → asks_key (rp_of os) ≡ false → Passes own os
passes own os e asks =
    let first = none_said (first_of (request_rules own os)) _ e in
    let supported = none_said (unsupported_among own os) _ first.0 in
    let missing = none_said (because (is_none (rp_of os)) errors.RP_MISSING) _ supported.1 in
    let optional = none_said (because (is_optional (rp_of os)) errors.P_CLEAR) _ missing.1 in
    let number = none_said (because (has_no_number (rp_of os)) errors.PARAMETER_NOT_SERVED) _ optional.1 in
    let path : first_of (path_rules own os) ≡ None = rw asks at first.1 in
    let ends = none_said (because (is_none (end_points_of own os)) errors.END_POINTS_MISSING) _ path in
    let bit = none_said (because (is_optional (end_points_of own os)) errors.P_CLEAR) _ ends.1 in
    let measures = none_said (because (not (are_measures os)) errors.PARAMETER_NOT_SERVED) _ bit.1 in
    let excludes = none_said (because (not (can_exclude (xro_of os))) errors.PARAMETER_NOT_SERVED) _ measures.1 in
    let follows = none_said (because (not (can_follow own (iro_of os))) errors.PARAMETER_NOT_SERVED) _ excludes.1 in
    record {
      number = not_so (has_no_number (rp_of os)) errors.PARAMETER_NOT_SERVED number.0;
      measures = not-false (are_measures os) (not_so (not (are_measures os)) errors.PARAMETER_NOT_SERVED measures.0);
      excludes = not-false (can_exclude (xro_of os)) (not_so (not (can_exclude (xro_of os))) errors.PARAMETER_NOT_SERVED excludes.0);
      follows = not-false (can_follow own (iro_of os)) (not_so (not (can_follow own (iro_of os))) errors.PARAMETER_NOT_SERVED follows.0);
    }

-- ---- admitted

pub record IsAdmitted (own : As) (os : List Object) (flags id : ℕ) (w : Wanted) : Type 0 where
  pub accepted : refusal_of own.0 os ≡ None
  pub rp : without_bit (rp_of os) ≡ Some (flags, id)
  pub asks : asks_key (rp_of os) ≡ false
  pub ends : without_bit (end_points_of own.0 os) ≡ Some (w.source, w.target)
  pub is : w ≡ wanted_of own.0 os (w.source, w.target)
  pub passes : Passes own.0 os

request_is : (r s : Request) → Admitted r ≡ Admitted s → r ≡ s
request_is r s e = cc

not_wrong : (rp : Option (ℕ × ℕ)) (kind value : ℕ) (r : Request) → Wrong rp kind value ≡ Admitted r → ⊥
not_wrong rp kind value r e = cc

checked_is : (rp : Option (ℕ × ℕ)) (reason : Option (ℕ × ℕ)) (wish : Option Wish) (r : Request) → checked rp reason wish ≡ Admitted r →
    (reason ≡ None) × (rp ≡ Some (r.flags, r.id)) × (wish ≡ Some r.wish)
checked_is None (Some error) wish r e = absurd (not_wrong None error.0 error.1 r e)
checked_is (Some rp) (Some error) wish r e = absurd (not_wrong (Some rp) error.0 error.1 r e)
checked_is None None wish r e = absurd (not_wrong None 6 1 r e)
checked_is (Some rp) None None r e = absurd (not_wrong (Some rp) 6 3 r e)
checked_is (Some rp) None (Some wish) r e =
    let made : Request = record { flags = rp.0; id = rp.1; wish = wish } in
    let same : made ≡ r = request_is made r e in
    (refl, ap (λ (q : Request). Some (q.flags, q.id)) same, ap (λ (q : Request). Some q.wish) same)

wish_is : (own : As) (os : List Object) (w : Wanted) → wish_of own.0 os ≡ Some (Path w) →
    (asks_key (rp_of os) ≡ false) × (without_bit (end_points_of own.0 os) ≡ Some (w.source, w.target)) × (w ≡ wanted_of own.0 os (w.source, w.target))
wish_is own os w e = go (asks_key (rp_of os)) refl (key_of os) (without_bit (end_points_of own.0 os)) refl e
  where
    go : (b : Bool) → asks_key (rp_of os) ≡ b → (k : Option (ℕ × Addr)) (ends : Option (Addr × Addr)) → without_bit (end_points_of own.0 os) ≡ ends →
        cond b (option_map (λ k. Expand k.0 k.1) k) (option_map (λ ends. Path (wanted_of own.0 os ends)) ends) ≡ Some (Path w) →
        (asks_key (rp_of os) ≡ false) × (without_bit (end_points_of own.0 os) ≡ Some (w.source, w.target)) × (w ≡ wanted_of own.0 os (w.source, w.target))
    go true is None ends is' h = absurd (no h)
      where
        no : ◌≡◌ {A = Option Wish} None (Some (Path w)) → ⊥
        no h' = cc
    go true is (Some k) ends is' h = absurd (no h)
      where
        no : ◌≡◌ {A = Option Wish} (Some (Expand k.0 k.1)) (Some (Path w)) → ⊥
        no h' = cc
    go false is k None is' h = absurd (no h)
      where
        no : ◌≡◌ {A = Option Wish} None (Some (Path w)) → ⊥
        no h' = cc
    go false is k (Some ends) is' h =
        let same : wanted_of own.0 os ends ≡ w = wanted_is (wanted_of own.0 os ends) w h in
        let ends_are : ends ≡ (w.source, w.target) = ap (λ (v : Wanted). (v.source, v.target)) same in
        (is, is' ∙ ap (λ (p : Addr × Addr). Some p) ends_are, sym same ∙ ap (λ (p : Addr × Addr). wanted_of own.0 os p) ends_are)
      where
        wanted_is : (a b : Wanted) → ◌≡◌ {A = Option Wish} (Some (Path a)) (Some (Path b)) → a ≡ b
        wanted_is a b h' = cc

pub admitted_is : (a : Asked) (own : As) (flags id : ℕ) (w : Wanted) → Admits wire a own flags id w → IsAdmitted own a.objects flags id w
admitted_is a own flags id w h =
    let three = checked_is (without_bit (rp_of a.objects)) (refusal_of own.0 a.objects) (wish_of own.0 a.objects) (record { flags = flags; id = id; wish = Path w }) h in
    let said = wish_is own a.objects w three.2 in
    record { accepted = three.0; rp = three.1; asks = said.0; ends = said.1; is = said.2; passes = passes own.0 a.objects three.0 said.0 }

-- the other way round
pub admits_from : (own : As) (a : Asked) (flags id : ℕ) (ends : Addr × Addr) → refusal_of own.0 a.objects ≡ None → without_bit (rp_of a.objects) ≡ Some (flags, id) →
    asks_key (rp_of a.objects) ≡ false → without_bit (end_points_of own.0 a.objects) ≡ Some ends → Admits wire a own flags id (wanted_of own.0 a.objects ends)
admits_from own a flags id ends accepted rp asks at_ends =
    ap (λ (o : Option (ℕ × ℕ)). checked o (refusal_of own.0 a.objects) (wish_of own.0 a.objects)) rp
    ∙ ap (λ (e : Option (ℕ × ℕ)). checked (Some (flags, id)) e (wish_of own.0 a.objects)) accepted
    ∙ ap (λ (o : Option Wish). checked (Some (flags, id)) None o) wish
  where
    wish : wish_of own.0 a.objects ≡ Some (Path (wanted_of own.0 a.objects ends))
    wish =
        ap (λ (b : Bool). cond b (option_map (λ k. Expand k.0 k.1) (key_of a.objects)) (option_map (λ ends. Path (wanted_of own.0 a.objects ends)) (without_bit (end_points_of own.0 a.objects)))) asks
        ∙ ap (λ (o : Option (Addr × Addr)). option_map (λ ends. Path (wanted_of own.0 a.objects ends)) o) at_ends

-- ---- its query and its sequence

abbrev as_of : ℕ → As
as_of n = record { 0 = n }

number_of : (n m : ℕ) → as_of n ≡ as_of m → n ≡ m
number_of n m e = ap (λ (a : As). a.0) e

cap_fits : (o : Option ℕ) → cap_of o ≤ COST_MAX
cap_fits None = omega arith
cap_fits (Some word) = least (unwrap_or (whole word) 0)
  where
    least : (k : ℕ) → min COST_MAX k ≤ COST_MAX
    least k = omega arith

few_domains : (route : List Hop) → length (domains route) ≤ length route
few_domains [] = omega arith
few_domains (h ∷ route) = go (domain_in h) (few_domains route)
  where
    go : (o : Option ℕ) → length (domains route) ≤ length route → length (cons_option o (domains route)) ≤ suc (length route)
    go None le = omega (arith, le)
    go (Some n) le = omega (arith, le)

domain_real : (route : List Hop) → list_all is_domain route ≡ true → All (λ (a : As). 1 ≤ a.0) (map as_of (domains route))
domain_real [] e = All-nil (λ (a : As). 1 ≤ a.0)
domain_real (hops.AsNumber loose number ∷ route) e =
    let two = and_parts (not (number.0 == 0)) (list_all is_domain route) e in
    All-cons (λ (a : As). 1 ≤ a.0) (as_of number.0) (map as_of (domains route)) (some number.0 (eqb-false number.0 0 (not-true (number.0 == 0) two.0))) (domain_real route two.1)
  where
    some : (k : ℕ) → (k ≡ 0 → ⊥) → 1 ≤ k
    some k h = omega arith
domain_real (hops.Prefix loose addr len ∷ route) e = absurd cc
domain_real (hops.Key loose key pce ∷ route) e = absurd cc
domain_real (hops.Other loose kind body ∷ route) e = absurd cc

not_among : (ns : List ℕ) (n : ℕ) → among ns n ≡ false → All (λ (b : As). as_of n ≢ b) (map as_of ns)
not_among [] n e = All-nil (λ (b : As). as_of n ≢ b)
not_among (m ∷ ns) n e =
    let two = or_parts (m == n) (among ns n) e in
    All-cons (λ (b : As). as_of n ≢ b) (as_of m) (map as_of ns) (λ h. eqb-false m n two.0 (sym (number_of n m h))) (not_among ns n two.1)

all_differ : (ns : List ℕ) → has_twice ns ≡ false → AllPairs (λ (a b : As). a ≢ b) (map as_of ns)
all_differ [] e = λ i j d less within. absurd (omega (arith, less, within))
all_differ (n ∷ ns) e =
    let two = or_parts (among ns n) (has_twice ns) e in
    AllPairs-cons (λ (a b : As). a ≢ b) (as_of n) (map as_of ns) (not_among ns n two.0) (all_differ ns two.1)

abbrev Follows : As → List As → Type 0
Follows own sequence = (sequence ≡ []) ⊎ ((rest : List As) × (sequence ≡ own ∷ rest) × IsSequence own rest)

follows : (own : As) (o : Option (List Hop)) → can_follow own.0 o ≡ true → Follows own (sequence_of o)
follows own None e = inl refl
follows own (Some route) e =
    let few = and_parts (nat_le (length route) 16) _ e in
    let real = and_parts (list_all is_domain route) _ few.1 in
    let differ = and_parts (not (has_twice (domains route))) _ real.1 in
    inr (go (domains route) differ.1 (omega (arith, few_domains route, leb-true (length route) 16 few.0)) (domain_real route real.0) (all_differ (domains route) (not-true (has_twice (domains route)) differ.0)))
  where
    go : (ns : List ℕ) → begins_with own.0 ns ≡ true → length ns ≤ 16 → All (λ (a : As). 1 ≤ a.0) (map as_of ns) → AllPairs (λ (a b : As). a ≢ b) (map as_of ns) →
        (rest : List As) × (map as_of ns ≡ own ∷ rest) × IsSequence own rest
    go [] begins few real differ = absurd cc
    go (n ∷ ns) begins few real differ =
        let same : as_of n ≡ own = ap as_of (eqb-true n own.0 begins) in
        let list : map as_of (n ∷ ns) ≡ own ∷ map as_of ns = ap (λ (a : As). a ∷ map as_of ns) same in (
          map as_of ns,
          list,
          record {
            few = omega (arith, length-map ns as_of, few);
            differ = subst (λ (l : List As). AllPairs (λ (a b : As). a ≢ b) l) list differ;
            real = subst (λ (l : List As). All (λ (a : As). 1 ≤ a.0) l) list real;
          },
        )

pub own : (a : Asked) (own : As) (flags x : ℕ) (w : Wanted) → Admits wire a own flags x w → (w.query.own ≡ own) × (w.query.cap ≤ COST_MAX) × Follows own w.sequence
own a d flags x w h =
    let is = admitted_is a d flags x w h in (
      ap (λ (v : Wanted). v.query.own) is.is,
      subst (λ (k : ℕ). k ≤ COST_MAX) (ap (λ (v : Wanted). v.query.cap) (sym is.is)) (cap_fits (bound_of (metrics_of a.objects))),
      subst (λ (l : List As). Follows d l) (ap (λ (v : Wanted). v.sequence) (sym is.is)) (follows d (iro_of a.objects) is.passes.follows),
    )

-- a wish to expand a key comes of the flag alone
asked_key : (own : As) (os : List Object) (key : ℕ) (pce : Addr) → wish_of own.0 os ≡ Some (Expand key pce) → asks_key (rp_of os) ≡ true
asked_key own os key pce e = go (asks_key (rp_of os)) refl (without_bit (end_points_of own.0 os)) e
  where
    go : (b : Bool) → asks_key (rp_of os) ≡ b → (ends : Option (Addr × Addr)) →
        cond b (option_map (λ k. Expand k.0 k.1) (key_of os)) (option_map (λ ends. Path (wanted_of own.0 os ends)) ends) ≡ Some (Expand key pce) →
        asks_key (rp_of os) ≡ true
    go true is ends h = is
    go false is None h = absurd (no h)
      where
        no : ◌≡◌ {A = Option Wish} None (Some (Expand key pce)) → ⊥
        no h' = cc
    go false is (Some ends) h = absurd (no h)
      where
        no : ◌≡◌ {A = Option Wish} (Some (Path (wanted_of own.0 os ends))) (Some (Expand key pce)) → ⊥
        no h' = cc

flag_of : (rp : Option ((ℕ × ℕ) × Bool)) (flags id : ℕ) → asks_key rp ≡ true → without_bit rp ≡ Some (flags, id) → bit_and flags 256 ≢ 0
flag_of None flags id asks is zero = absurd (no is)
  where
    no : ◌≡◌ {A = Option (ℕ × ℕ)} None (Some (flags, id)) → ⊥
    no h' = cc
flag_of (Some rp) flags id asks is zero =
    let same : rp.0.0 ≡ flags = flags_are rp.0 is in
    no (bit_and rp.0.0 256 == 0) (eqb-refl (ap (λ (f : ℕ). bit_and f 256) same ∙ zero)) asks
  where
    flags_are : (x : ℕ × ℕ) → Some x ≡ Some (flags, id) → x.0 ≡ flags
    flags_are x h = cc

    eqb-refl : {n : ℕ} → n ≡ 0 → (n == 0) ≡ true
    eqb-refl e = ap (λ (n : ℕ). n == 0) e

    no : (b : Bool) → b ≡ true → not b ≡ true → ⊥
    no b e h = cc

-- a request to expand a key has the flag of one
pub expands : (a : Asked) (own : As) (r : Request) (key : ℕ) (pce : Addr) → check_of a own ≡ Admitted r → r.wish ≡ Expand key pce → bit_and r.flags 256 ≢ 0
expands a own r key pce h wish =
    let three = checked_is (without_bit (rp_of a.objects)) (refusal_of own.0 a.objects) (wish_of own.0 a.objects) r h in
    flag_of (rp_of a.objects) r.flags r.id (asked_key own a.objects key pce (three.2 ∙ ap (λ (w : Wish). Some w) wish)) three.1
