-- A request that is sent on is admitted at the next element, and asks for the same there.
use Rattle.std.proofs.Common.{◌≡◌, ◌≢◌, ◌≤◌, ◌<◌, ◌^◌, ◌+◌, ℕ, suc, Bool, true, false, cond, ◌==◌, ◌&&◌, not, nat_le, nat_lt, List, [], ◌∷◌, ◌++◌, length, map, Option, Some, None, sym, ◌∙◌, ap, subst, refl, arith, append_assoc}
use Rattle.std.specs.Prelude.{All, AllPairs, is_none, unwrap_or, filter, count_by}
use Rattle.std.specs.Option.{option_or}
use Rattle.std.specs.List.{list_all, AllByRecursion, position, position_or_len}
use Rattle.std.proofs.lemmas.Bool.{leb-true, le-leb, eq-eqb, ne_eqb, ltb-false, le-ltb, and_parts, and_from, or_from, not_from_false}
use Rattle.std.proofs.lemmas.List.Elements.{All-head, All-tail, filter_map-append}
use Rattle.std.proofs.lemmas.List.{append-nil, length-map}
use Rattle.std.proofs.lemmas.List.Sums.{sum_by-cons, sum_by-append}
use Rattle.plant_model.specs.Types.{As, Addr, Metric, Query, Exclusion, Hop, Body, Object, Asked, Wanted}
use Rattle.dom_base.specs.declared.addr.Addr.TheVariants.{V4, V6}
use Rattle.dom_base.specs.declared.query.Metric.TheVariants.{Igp, Te, Hops}
use Rattle.path_constraints.specs.Support.{is_supported, is_demand, first_unsupported}
use Rattle.pcep_objects.specs.declared.object.Body.TheVariants as bodies
use Rattle.pcep_messages.specs.Groups.{first_said}
use Rattle.pcep_messages.specs.Said.{end_points_of, bandwidth_in, bandwidth_of, masks_in, masks_of, metric_in, metrics_of, iro_in, iro_of, xro_in, xro_of}
use Rattle.pcep_codes.specs.declared.errors.TheConstants as errors
use Rattle.pcep_messages.specs.Refusals.{Reason, because, first_of, request_rules, path_rules, unsupported, unsupported_among, is_optional, asked_type, is_bound, is_minimised, are_measures, can_exclude, can_follow, refusal_of, is_domain, domains, has_twice, among}
use Rattle.pcep_messages.specs.Requests.{type_of_metric, metric_of_type, bound_of, cap_of, units_of, demands_of, query_of, sequence_of, without_bit, wanted_of}
use Rattle.walk_laws.specs.Crossing.{query_in}
use Rattle.plant_text.specs.Names.{parent_as}
use Rattle.plant_model.specs.Writing.{as_hop, needed, ends, ends_kind, lspa, bandwidth, bound, iro, xro, asked_of, vspt_flag}
use Rattle.plant_model.specs.Wire.{Checked, Wrong}
use Rattle.plant_model.specs.RealWire.{check_of, wire}
use Rattle.plant_model.specs.Laws.{Admits, IsSequence}
use Rattle.plant_model.proofs.Admitted.{IsAdmitted, admitted_is, admits_from}

-- ---- exclusions that are kept

abbrev bad : Exclusion → Bool
bad e = is_demand e && not (is_supported e.what)

-- few demands, each supported
pub record AreKept (xs : List Exclusion) : Type 0 where
  pub few : length xs ≤ 256
  pub demanded : AllByRecursion (λ (e : Exclusion). is_demand e ≡ true) xs
  pub supported : AllByRecursion (λ (e : Exclusion). bad e ≡ false) xs

none_bad : {X : Type 0} (p : X → Bool) (xs : List X) → length xs ≤ position_or_len p xs → AllByRecursion (λ (x : X). p x ≡ false) xs
none_bad p [] le = tt
none_bad {X = X} p (x ∷ xs) le = go (p x) refl le (none_bad p xs)
  where
    go : (b : Bool) → p x ≡ b → suc (length xs) ≤ cond (not b) (1 + position_or_len p xs) 0 → (length xs ≤ position_or_len p xs → AllByRecursion (λ (y : X). p y ≡ false) xs) →
        (p x ≡ false) × AllByRecursion (λ (y : X). p y ≡ false) xs
    go true is le' more = absurd (omega (arith, le'))
    go false is le' more = (is, more (omega (arith, le')))

no_place : {X : Type 0} (p : X → Bool) (xs : List X) → position p xs ≡ None → length xs ≤ position_or_len p xs
no_place p xs e = go (nat_lt (position_or_len p xs) (length xs)) refl e
  where
    go : (b : Bool) → nat_lt (position_or_len p xs) (length xs) ≡ b → cond b (Some (position_or_len p xs)) None ≡ None → length xs ≤ position_or_len p xs
    go true is e' = absurd cc
    go false is e' = ltb-false (position_or_len p xs) (length xs) is

nowhere : {X : Type 0} (p : X → Bool) (xs : List X) → AllByRecursion (λ (x : X). p x ≡ false) xs → length xs ≤ position_or_len p xs
nowhere p [] all = omega arith
nowhere {X = X} p (x ∷ xs) all = subst (λ (b : Bool). suc (length xs) ≤ cond (not b) (1 + position_or_len p xs) 0) (sym all.0) (more (nowhere p xs all.1))
  where
    more : length xs ≤ position_or_len p xs → suc (length xs) ≤ 1 + position_or_len p xs
    more le = omega (arith, le)

pub kept_by : {X : Type 0} (p : X → Bool) (P : X → Type 0) (xs : List X) → AllByRecursion P xs → AllByRecursion P (filter p xs)
kept_by p P [] all = tt
kept_by {X = X} p P (x ∷ xs) all = go (p x) (kept_by p P xs all.1)
  where
    go : (b : Bool) → AllByRecursion P (filter p xs) → AllByRecursion P (cond b (x ∷ filter p xs) (filter p xs))
    go true more = (all.0, more)
    go false more = more

passing : {X : Type 0} (p : X → Bool) (xs : List X) → AllByRecursion (λ (x : X). p x ≡ true) (filter p xs)
passing p [] = tt
passing {X = X} p (x ∷ xs) = go (p x) refl (passing p xs)
  where
    go : (b : Bool) → p x ≡ b → AllByRecursion (λ (y : X). p y ≡ true) (filter p xs) → AllByRecursion (λ (y : X). p y ≡ true) (cond b (x ∷ filter p xs) (filter p xs))
    go true is more = (is, more)
    go false is more = more

all_pass : {X : Type 0} (p : X → Bool) (xs : List X) → AllByRecursion (λ (x : X). p x ≡ true) xs → filter p xs ≡ xs
all_pass p [] all = refl
all_pass p (x ∷ xs) all = ap (λ (b : Bool). cond b (x ∷ filter p xs) (filter p xs)) all.0 ∙ ap (λ l. x ∷ l) (all_pass p xs all.1)

fewer : {X : Type 0} (p : X → Bool) (xs : List X) → length (filter p xs) ≤ length xs
fewer p [] = omega arith
fewer p (x ∷ xs) = go (p x) (fewer p xs)
  where
    go : (b : Bool) → length (filter p xs) ≤ length xs → length (cond b (x ∷ filter p xs) (filter p xs)) ≤ suc (length xs)
    go true le = omega (arith, le)
    go false le = omega (arith, le)

nothing : (o : Option ℕ) → is_none o ≡ true → o ≡ None
nothing None e = refl
nothing (Some n) e = absurd cc

pub are_kept : (o : Option (List Exclusion)) → can_exclude o ≡ true → AreKept (demands_of o)
are_kept None e = record { few = omega arith; demanded = tt; supported = tt }
are_kept (Some xs) e =
    let two = and_parts (nat_le (length xs) 256) (is_none (first_unsupported xs)) e in
    record {
      few = omega (arith, fewer is_demand xs, leb-true (length xs) 256 two.0);
      demanded = passing is_demand xs;
      supported = kept_by is_demand (λ (x : Exclusion). bad x ≡ false) xs (none_bad bad xs (no_place bad xs (nothing (first_unsupported xs) two.1)));
    }

can_keep : (xs : List Exclusion) → AreKept xs → can_exclude (Some xs) ≡ true
can_keep xs kept = and_from (nat_le (length xs) 256) (is_none (first_unsupported xs)) (le-leb (length xs) 256 kept.few) (go (le-ltb (position_or_len bad xs) (length xs) (nowhere bad xs kept.supported)))
  where
    go : nat_lt (position_or_len bad xs) (length xs) ≡ false → is_none (first_unsupported xs) ≡ true
    go e = ap (λ (b : Bool). is_none (cond b (Some (position_or_len bad xs)) None)) e

-- ---- what the query is made of

abbrev query_by : As → Metric → Option ℕ → Option ℕ → Option (ℕ × ℕ × ℕ) → List Exclusion → Query
query_by own m bound_word bandwidth_word masks xs = record {
  own = own;
  metric = m;
  cap = cap_of bound_word;
  bandwidth = units_of bandwidth_word;
  exclude_any = (unwrap_or masks (0, 0, 0)).0;
  include_any = (unwrap_or masks (0, 0, 0)).1;
  include_all = (unwrap_or masks (0, 0, 0)).2;
  exclusions = xs;
}

-- the words of a request say all that its query is but the domain
pub record CanAsk (w : Wanted) : Type 0 where
  pub query : w.query ≡ query_by w.query.own w.query.metric w.bound_word w.bandwidth_word w.masks w.query.exclusions
  pub kept : AreKept w.query.exclusions

pub can_ask : (own : As) (os : List Object) (flags id : ℕ) (w : Wanted) → IsAdmitted own os flags id w → CanAsk w
can_ask own os flags id w is = subst CanAsk (sym is.is) (record { query = refl; kept = are_kept (xro_of os) is.passes.excludes })

-- ---- parts of a request, one behind the other

pub said_behind : {X : Type 0} (what : Body → Option X) (xs ys : List Object) → first_said what xs ≡ None → first_said what (xs ++ ys) ≡ first_said what ys
said_behind what [] ys e = refl
said_behind {X = X} what (o ∷ xs) ys e = go (what o.body) e (said_behind what xs ys)
  where
    go : (r : Option X) → option_or r (first_said what xs) ≡ None → (first_said what xs ≡ None → first_said what (xs ++ ys) ≡ first_said what ys) → option_or r (first_said what (xs ++ ys)) ≡ first_said what ys
    go None e' more = more e'
    go (Some x) e' more = absurd (no e')
      where
        no : ◌≡◌ {A = Option X} (Some x) None → ⊥
        no h = cc

said_first : {X : Type 0} (what : Body → Option X) (xs ys : List Object) → first_said what ys ≡ None → first_said what (xs ++ ys) ≡ first_said what xs
said_first what [] ys e = e
said_first what (o ∷ xs) ys e = ap (λ r. option_or (what o.body) r) (said_first what xs ys e)

module _ {X : Type 0} (what : Body → Option X) where
  silent_lspa : ((a b c : ℕ) → what (bodies.Lspa a b c 0 0 0) ≡ None) → (o : Option (ℕ × ℕ × ℕ)) → first_said what (lspa o) ≡ None
  silent_lspa none None = refl
  silent_lspa none (Some m) = ap (λ r. option_or r None) (none m.0 m.1 m.2)

  silent_bandwidth : ((k : ℕ) → what (bodies.Bandwidth k) ≡ None) → (o : Option ℕ) → first_said what (bandwidth o) ≡ None
  silent_bandwidth none None = refl
  silent_bandwidth none (Some word) = ap (λ r. option_or r None) (none word)

  silent_bound : ((b c : Bool) (k n : ℕ) → what (bodies.Metric b c k n) ≡ None) → (m : Metric) (o : Option ℕ) → first_said what (bound m o) ≡ None
  silent_bound none m None = refl
  silent_bound none m (Some word) = ap (λ r. option_or r None) (none true false (type_of_metric m) word)

  silent_iro : ((route : List Hop) → what (bodies.Iro route) ≡ None) → (s : List As) → first_said what (iro s) ≡ None
  silent_iro none [] = refl
  silent_iro none (a ∷ s) = ap (λ r. option_or r None) (none (map as_hop (a ∷ s)))

  silent_xro : ((xs : List Exclusion) → what (bodies.Xro xs) ≡ None) → (xs : List Exclusion) → first_said what (xro xs) ≡ None
  silent_xro none [] = refl
  silent_xro none (x ∷ xs) = ap (λ r. option_or r None) (none (x ∷ xs))

abbrev iro_said : List As → Option (List Hop)
iro_said [] = None
iro_said (a ∷ s) = Some (map as_hop (a ∷ s))

abbrev xro_said : List Exclusion → Option (List Exclusion)
xro_said [] = None
xro_said (x ∷ xs) = Some (x ∷ xs)

abbrev bound_said : Metric → Option ℕ → List (Bool × ℕ × ℕ)
bound_said m None = []
bound_said m (Some word) = (true, type_of_metric m, word) ∷ []

-- ---- sequences

abbrev number : As → ℕ
number a = a.0

domains_back : (s : List As) → domains (map as_hop s) ≡ map number s
domains_back [] = refl
domains_back (a ∷ s) = ap (λ l. a.0 ∷ l) (domains_back s)

sequence_back : (s : List As) → sequence_of (iro_said s) ≡ s
sequence_back [] = refl
sequence_back (a ∷ s) = ap (λ l. map as_of l) (domains_back (a ∷ s)) ∙ again (a ∷ s)
  where
    as_of : ℕ → As
    as_of n = record { 0 = n }

    again : (l : List As) → map as_of (map number l) ≡ l
    again [] = refl
    again (b ∷ l) = ap (λ r. b ∷ r) (again l)

are_domains : (s : List As) → All (λ (a : As). 1 ≤ a.0) s → list_all is_domain (map as_hop s) ≡ true
are_domains [] all = refl
are_domains (a ∷ s) all =
    and_from (not (a.0 == 0)) (list_all is_domain (map as_hop s)) (not_from_false (a.0 == 0) (ne_eqb a.0 0 (not_zero a.0 (All-head (λ (a : As). 1 ≤ a.0) a s all)))) (are_domains s (All-tail (λ (a : As). 1 ≤ a.0) a s all))
  where
    not_zero : (k : ℕ) → 1 ≤ k → k ≡ 0 → ⊥
    not_zero k some e = omega arith

abbrev Differ : As → As → Type 0
Differ a b = a ≢ b

pairs_head : (a : As) (s : List As) → AllPairs Differ (a ∷ s) → All (Differ a) s
pairs_head a s all k d lt = all 0 (suc k) d (omega arith) (omega (arith, lt))

pub pairs_tail : (a : As) (s : List As) → AllPairs Differ (a ∷ s) → AllPairs Differ s
pairs_tail a s all i j d less within = all (suc i) (suc j) d (omega (arith, less)) (omega (arith, within))

not_twice : (s : List As) → AllPairs Differ s → has_twice (map number s) ≡ false
not_twice [] all = refl
not_twice (a ∷ s) all = or_from (among (map number s) a.0) (has_twice (map number s)) (not_in s (pairs_head a s all)) (not_twice s (pairs_tail a s all))
  where
    not_in : (l : List As) → All (Differ a) l → among (map number l) a.0 ≡ false
    not_in [] all' = refl
    not_in (b ∷ l) all' =
        or_from (b.0 == a.0) (among (map number l) a.0) (ne_eqb b.0 a.0 (λ h. All-head (Differ a) b l all' (ap (λ (k : ℕ). let x : As = record { 0 = k } in x) (sym h)))) (not_in l (All-tail (Differ a) b l all'))

pub can_go : (next : As) (rest : List As) → IsSequence next rest → can_follow next.0 (iro_said (next ∷ rest)) ≡ true
can_go next rest is =
    let s = next ∷ rest in
    and_from (nat_le (length (map as_hop s)) 16) _ (le-leb (length (map as_hop s)) 16 (omega (arith, length-map s as_hop, is.few)))
    (and_from (list_all is_domain (map as_hop s)) _ (are_domains s is.real)
    (and_from (not (has_twice (domains (map as_hop s)))) _ (not_from_false (has_twice (domains (map as_hop s))) (ap has_twice (domains_back s) ∙ not_twice s is.differ)) (eq-eqb next.0 next.0 refl)))

-- ---- measures

metric_back : (m : Metric) → metric_of_type (type_of_metric m) ≡ m
metric_back Igp = refl
metric_back Te = refl
metric_back Hops = refl

bound_back : (m : Metric) (o : Option ℕ) → bound_of ((false, type_of_metric m, 0) ∷ bound_said m o) ≡ o
bound_back m None = refl
bound_back m (Some word) = refl

abbrev measured : List (Bool × ℕ × ℕ) → ℕ → ℕ → Bool
measured ms bounds minimised =
    (nat_le 1 (asked_type ms) && nat_le (asked_type ms) 3) && (list_all (λ m. m.1 == asked_type ms) ms && (nat_le bounds 1 && nat_le minimised 1))

bounds_in : Option ℕ → ℕ
bounds_in None = 0
bounds_in (Some word) = 1

is_measured : (m : Metric) (o : Option ℕ) → measured ((false, type_of_metric m, 0) ∷ bound_said m o) (bounds_in o) 1 ≡ true
unfolding bounds_in
is_measured Igp None = refl
is_measured Te None = refl
is_measured Hops None = refl
is_measured Igp (Some word) = refl
is_measured Te (Some word) = refl
is_measured Hops (Some word) = refl

-- what is the same of nothing and of something
by_option : {X Y : Type 0} (f : Option X → Y) (y : Y) → f None ≡ y → ((x : X) → f (Some x) ≡ y) → (o : Option X) → f o ≡ y
by_option f y none some None = none
by_option f y none some (Some x) = some x

by_list : {X Y : Type 0} (f : List X → Y) (y : Y) → f [] ≡ y → ((x : X) (rest : List X) → f (x ∷ rest) ≡ y) → (l : List X) → f l ≡ y
by_list f y none some [] = none
by_list f y none some (x ∷ rest) = some x rest

-- what is counted among the optional objects
module _ (p : Object → Bool) where
  counted_behind : (xs ys : List Object) → count_by p xs ≡ 0 → count_by p (xs ++ ys) ≡ count_by p ys
  counted_behind xs ys none = sum_by-append (λ o. cond (p o) 1 0) xs ys ∙ ap (λ k. k + count_by p ys) none ∙ zero_plus (count_by p ys)
    where
      zero_plus : (k : ℕ) → 0 + k ≡ k
      zero_plus k = omega arith

  one_more : (o : Object) (os : List Object) → count_by p (o ∷ os) ≡ cond (p o) 1 0 + count_by p os
  one_more o os = sum_by-cons (λ o. cond (p o) 1 0) o os

-- an element serves END-POINTS of both kinds, and the parent, whose number is 0, those of IPv4
abbrev Serves : ℕ → Addr → Addr → Type 0
Serves own s t = ((own == 0) && (ends_kind s t == 2)) ≡ false

ends_supported : (own : ℕ) (s t : Addr) → Serves own s t → unsupported own 4 (ends_kind s t) ≡ None
ends_supported own (V4 m) t h = refl
ends_supported own (V6 m) (V4 n) h = refl
ends_supported own (V6 m) (V6 n) h = go (own == 0) h
  where
    go : (b : Bool) → (b && true) ≡ false → because b errors.KIND_NOT_SERVED ≡ None
    go true e = absurd cc
    go false e = refl

ends_said : (b : Bool) (s t : Addr) (rest : Option ((Addr × Addr) × Bool)) → (b && (ends_kind s t == 2)) ≡ false →
    option_or (cond (b && false) None None) (option_or (cond (b && (ends_kind s t == 2)) None (Some ((s, t), true))) rest) ≡ Some ((s, t), true)
ends_said true s t rest h = ap (λ (c : Bool). option_or (cond c None (Some ((s, t), true))) rest) h
ends_said false s t rest h = refl

-- the objects of a request that is sent on
module _ (id : ℕ) (w : Wanted) (t : Addr) (s : List As) where
  abbrev os : List Object
  os = (asked_of id w t s).objects

  abbrev m : Metric
  m = w.query.metric

  abbrev after_bound : List Object
  after_bound = iro s ++ xro w.query.exclusions

  abbrev after_bandwidth : List Object
  after_bandwidth = needed 6 (bodies.Metric false true (type_of_metric m) 0) ∷ (bound m w.bound_word ++ after_bound)

  abbrev pub after_lspa : List Object
  after_lspa = bandwidth w.bandwidth_word ++ after_bandwidth

  pub flat : os ≡ needed 2 (bodies.Rp vspt_flag id) ∷ ends w.source t ∷ (lspa w.masks ++ after_lspa)
  flat = simp append_assoc

  ends_are : (own : ℕ) → Serves own w.source t → end_points_of own os ≡ Some ((w.source, t), true)
  ends_are own serves = ap (end_points_of own) flat ∙ ends_said (own == 0) w.source t (end_points_of own (lspa w.masks ++ after_lspa)) serves

  masks_are : masks_of os ≡ w.masks
  masks_are =
      ap masks_of flat
      ∙ said_first masks_in (lspa w.masks) after_lspa
      (said_behind masks_in (bandwidth w.bandwidth_word) after_bandwidth (silent_bandwidth masks_in (λ k. refl) w.bandwidth_word)
      ∙ said_behind masks_in (bound m w.bound_word) after_bound (silent_bound masks_in (λ b c k n. refl) m w.bound_word)
      ∙ said_behind masks_in (iro s) (xro w.query.exclusions) (silent_iro masks_in (λ route. refl) s)
      ∙ silent_xro masks_in (λ xs. refl) w.query.exclusions)
      ∙ alone w.masks
    where
      alone : (o : Option (ℕ × ℕ × ℕ)) → first_said masks_in (lspa o) ≡ o
      alone None = refl
      alone (Some x) = refl

  bandwidth_is : bandwidth_of os ≡ w.bandwidth_word
  bandwidth_is =
      ap bandwidth_of flat
      ∙ said_behind bandwidth_in (lspa w.masks) after_lspa (silent_lspa bandwidth_in (λ a b c. refl) w.masks)
      ∙ said_first bandwidth_in (bandwidth w.bandwidth_word) after_bandwidth
      (said_behind bandwidth_in (bound m w.bound_word) after_bound (silent_bound bandwidth_in (λ b c k n. refl) m w.bound_word)
      ∙ said_behind bandwidth_in (iro s) (xro w.query.exclusions) (silent_iro bandwidth_in (λ route. refl) s)
      ∙ silent_xro bandwidth_in (λ xs. refl) w.query.exclusions)
      ∙ alone w.bandwidth_word
    where
      alone : (o : Option ℕ) → first_said bandwidth_in (bandwidth o) ≡ o
      alone None = refl
      alone (Some x) = refl

  iro_is : iro_of os ≡ iro_said s
  iro_is =
      ap iro_of flat
      ∙ said_behind iro_in (lspa w.masks) after_lspa (silent_lspa iro_in (λ a b c. refl) w.masks)
      ∙ said_behind iro_in (bandwidth w.bandwidth_word) after_bandwidth (silent_bandwidth iro_in (λ k. refl) w.bandwidth_word)
      ∙ said_behind iro_in (bound m w.bound_word) after_bound (silent_bound iro_in (λ b c k n. refl) m w.bound_word)
      ∙ said_first iro_in (iro s) (xro w.query.exclusions) (silent_xro iro_in (λ xs. refl) w.query.exclusions)
      ∙ alone s
    where
      alone : (l : List As) → first_said iro_in (iro l) ≡ iro_said l
      alone [] = refl
      alone (a ∷ l) = refl

  xro_is : xro_of os ≡ xro_said w.query.exclusions
  xro_is =
      ap xro_of flat
      ∙ said_behind xro_in (lspa w.masks) after_lspa (silent_lspa xro_in (λ a b c. refl) w.masks)
      ∙ said_behind xro_in (bandwidth w.bandwidth_word) after_bandwidth (silent_bandwidth xro_in (λ k. refl) w.bandwidth_word)
      ∙ said_behind xro_in (bound m w.bound_word) after_bound (silent_bound xro_in (λ b c k n. refl) m w.bound_word)
      ∙ said_behind xro_in (iro s) (xro w.query.exclusions) (silent_iro xro_in (λ route. refl) s)
      ∙ alone w.query.exclusions
    where
      alone : (l : List Exclusion) → first_said xro_in (xro l) ≡ xro_said l
      alone [] = refl
      alone (x ∷ l) = refl

  metrics_are : metrics_of os ≡ (false, type_of_metric m, 0) ∷ bound_said m w.bound_word
  metrics_are =
      ap metrics_of flat
      ∙ behind (lspa w.masks) after_lspa (by_option (λ (o : Option (ℕ × ℕ × ℕ)). metrics_of (lspa o)) [] refl (λ x. refl) w.masks)
      ∙ behind (bandwidth w.bandwidth_word) after_bandwidth (by_option (λ (o : Option ℕ). metrics_of (bandwidth o)) [] refl (λ x. refl) w.bandwidth_word)
      ∙ ap (λ l. (false, type_of_metric m, 0) ∷ l) (filter_map-append (λ o. metric_in o.body) (bound m w.bound_word) after_bound
      ∙ ap (λ l. metrics_of (bound m w.bound_word) ++ l) (behind (iro s) (xro w.query.exclusions) (by_list (λ (l : List As). metrics_of (iro l)) [] refl (λ x rest. refl) s) ∙ by_list (λ (l : List Exclusion). metrics_of (xro l)) [] refl (λ x rest. refl) w.query.exclusions)
      ∙ append-nil (metrics_of (bound m w.bound_word))
      ∙ alone w.bound_word)
    where
      behind : (xs ys : List Object) → metrics_of xs ≡ [] → metrics_of (xs ++ ys) ≡ metrics_of ys
      behind xs ys e = filter_map-append (λ o. metric_in o.body) xs ys ∙ ap (λ l. l ++ metrics_of ys) e

      alone : (o : Option ℕ) → metrics_of (bound m o) ≡ bound_said m o
      alone None = refl
      alone (Some x) = refl

  bounds_are : count_by is_bound os ≡ bounds_in w.bound_word
  unfolding is_bound bounds_in
  bounds_are =
      ap (count_by is_bound) flat
      ∙ counted_behind is_bound (needed 2 (bodies.Rp vspt_flag id) ∷ []) (ends w.source t ∷ (lspa w.masks ++ after_lspa)) refl
      ∙ counted_behind is_bound (ends w.source t ∷ []) (lspa w.masks ++ after_lspa) refl
      ∙ counted_behind is_bound (lspa w.masks) after_lspa (by_option (λ (o : Option (ℕ × ℕ × ℕ)). count_by is_bound (lspa o)) 0 refl (λ x. refl) w.masks)
      ∙ counted_behind is_bound (bandwidth w.bandwidth_word) after_bandwidth (by_option (λ (o : Option ℕ). count_by is_bound (bandwidth o)) 0 refl (λ x. refl) w.bandwidth_word)
      ∙ counted_behind is_bound (needed 6 (bodies.Metric false true (type_of_metric m) 0) ∷ []) (bound m w.bound_word ++ after_bound) refl
      ∙ sum_by-append (λ o. cond (is_bound o) 1 0) (bound m w.bound_word) after_bound
      ∙ ap (λ k. count_by is_bound (bound m w.bound_word) + k) (counted_behind is_bound (iro s) (xro w.query.exclusions) (by_list (λ (l : List As). count_by is_bound (iro l)) 0 refl (λ x rest. refl) s) ∙ by_list (λ (l : List Exclusion). count_by is_bound (xro l)) 0 refl (λ x rest. refl) w.query.exclusions)
      ∙ alone w.bound_word
    where
      alone : (o : Option ℕ) → count_by is_bound (bound m o) + 0 ≡ bounds_in o
      alone None = refl
      alone (Some x) = refl

  minimised_are : count_by is_minimised os ≡ 1
  unfolding is_minimised
  minimised_are =
      ap (count_by is_minimised) flat
      ∙ counted_behind is_minimised (needed 2 (bodies.Rp vspt_flag id) ∷ []) (ends w.source t ∷ (lspa w.masks ++ after_lspa)) refl
      ∙ counted_behind is_minimised (ends w.source t ∷ []) (lspa w.masks ++ after_lspa) refl
      ∙ counted_behind is_minimised (lspa w.masks) after_lspa (by_option (λ (o : Option (ℕ × ℕ × ℕ)). count_by is_minimised (lspa o)) 0 refl (λ x. refl) w.masks)
      ∙ counted_behind is_minimised (bandwidth w.bandwidth_word) after_bandwidth (by_option (λ (o : Option ℕ). count_by is_minimised (bandwidth o)) 0 refl (λ x. refl) w.bandwidth_word)
      ∙ one_more is_minimised (needed 6 (bodies.Metric false true (type_of_metric m) 0)) (bound m w.bound_word ++ after_bound)
      ∙ ap (λ k. 1 + k) (counted_behind is_minimised (bound m w.bound_word) after_bound (by_option (λ (o : Option ℕ). count_by is_minimised (bound m o)) 0 refl (λ x. refl) w.bound_word)
      ∙ counted_behind is_minimised (iro s) (xro w.query.exclusions) (by_list (λ (l : List As). count_by is_minimised (iro l)) 0 refl (λ x rest. refl) s) ∙ by_list (λ (l : List Exclusion). count_by is_minimised (xro l)) 0 refl (λ x rest. refl) w.query.exclusions)

  measures_fit : are_measures os ≡ true
  measures_fit =
      ap (λ ms. measured ms (count_by is_bound os) (count_by is_minimised os)) metrics_are
      ∙ ap (λ k. measured ((false, type_of_metric m, 0) ∷ bound_said m w.bound_word) k (count_by is_minimised os)) bounds_are
      ∙ ap (λ k. measured ((false, type_of_metric m, 0) ∷ bound_said m w.bound_word) (bounds_in w.bound_word) k) minimised_are
      ∙ is_measured m w.bound_word

  all_supported : (own : ℕ) → Serves own w.source t → unsupported_among own os ≡ None
  all_supported own serves =
      ap (unsupported_among own) flat
      ∙ ap (λ (r : Reason). option_or r (unsupported_among own (lspa w.masks ++ after_lspa))) (ends_supported own w.source t serves)
      ∙ behind (lspa w.masks) after_lspa (lspa_fits w.masks)
      ∙ behind (bandwidth w.bandwidth_word) after_bandwidth (bandwidth_fits w.bandwidth_word)
      ∙ behind (bound m w.bound_word) after_bound (bound_fits w.bound_word)
      ∙ behind (iro s) (xro w.query.exclusions) (iro_fits s)
      ∙ xro_fits w.query.exclusions
    where
      behind : (xs ys : List Object) → unsupported_among own xs ≡ None → unsupported_among own (xs ++ ys) ≡ unsupported_among own ys
      behind [] ys e = refl
      behind (o ∷ xs) ys e = go (cond o.must (unsupported own o.class o.kind) None) e (behind xs ys)
        where
          go : (r : Reason) → option_or r (unsupported_among own xs) ≡ None → (unsupported_among own xs ≡ None → unsupported_among own (xs ++ ys) ≡ unsupported_among own ys) → option_or r (unsupported_among own (xs ++ ys)) ≡ unsupported_among own ys
          go None e' more = more e'
          go (Some x) e' more = absurd cc

      lspa_fits : (o : Option (ℕ × ℕ × ℕ)) → unsupported_among own (lspa o) ≡ None
      lspa_fits None = refl
      lspa_fits (Some x) = refl

      bandwidth_fits : (o : Option ℕ) → unsupported_among own (bandwidth o) ≡ None
      bandwidth_fits None = refl
      bandwidth_fits (Some x) = refl

      bound_fits : (o : Option ℕ) → unsupported_among own (bound m o) ≡ None
      bound_fits None = refl
      bound_fits (Some x) = refl

      iro_fits : (l : List As) → unsupported_among own (iro l) ≡ None
      iro_fits [] = refl
      iro_fits (a ∷ l) = refl

      xro_fits : (l : List Exclusion) → unsupported_among own (xro l) ≡ None
      xro_fits [] = refl
      xro_fits (x ∷ l) = refl

  -- no rule refuses it
  module _ (next : As) (some : 1 ≤ id) (can : CanAsk w) (along : can_follow next.0 (iro_said s) ≡ true) (serves : Serves next.0 w.source t) where
    request_passes : first_of (request_rules next.0 os) ≡ None
    request_passes = both (unsupported_among next.0 os) _ (all_supported next.0 serves) (ap (λ (b : Bool). option_or (because b errors.PARAMETER_NOT_SERVED) None) (ne_eqb id 0 (not_zero id some)))
      where
        not_zero : (k : ℕ) → 1 ≤ k → k ≡ 0 → ⊥
        not_zero k le e = omega arith

        both : (a b : Reason) → a ≡ None → b ≡ None → option_or a b ≡ None
        both None b e f = f
        both (Some x) b e f = absurd cc

    excludes : can_exclude (xro_of os) ≡ true
    excludes = ap can_exclude xro_is ∙ go w.query.exclusions can.kept
      where
        go : (xs : List Exclusion) → AreKept xs → can_exclude (xro_said xs) ≡ true
        go [] kept = refl
        go (x ∷ xs) kept = can_keep (x ∷ xs) kept

    path_passes : first_of (path_rules next.0 os) ≡ None
    path_passes =
        ap (λ (e : Option ((Addr × Addr) × Bool)). option_or (because (is_none e) errors.END_POINTS_MISSING) (option_or (because (is_optional e) errors.P_CLEAR) last)) (ends_are next.0 serves)
        ∙ three (are_measures os) (can_exclude (xro_of os)) (can_follow next.0 (iro_of os)) measures_fit excludes (ap (can_follow next.0) iro_is ∙ along)
      where
        last : Reason
        last = first_of (because (not (are_measures os)) errors.PARAMETER_NOT_SERVED ∷ because (not (can_exclude (xro_of os))) errors.PARAMETER_NOT_SERVED ∷ because (not (can_follow next.0 (iro_of os))) errors.PARAMETER_NOT_SERVED ∷ [])

        three : (a b c : Bool) → a ≡ true → b ≡ true → c ≡ true → option_or (because (not a) errors.PARAMETER_NOT_SERVED) (option_or (because (not b) errors.PARAMETER_NOT_SERVED) (option_or (because (not c) errors.PARAMETER_NOT_SERVED) None)) ≡ None
        three true true true e f g = refl
        three false b c e f g = absurd cc
        three true false c e f g = absurd cc
        three true true false e f g = absurd cc

    not_refused : refusal_of next.0 os ≡ None
    not_refused = ap (λ r. option_or r (first_of (path_rules next.0 os))) request_passes ∙ path_passes

    exclusions_are : demands_of (xro_of os) ≡ w.query.exclusions
    exclusions_are = ap demands_of xro_is ∙ go w.query.exclusions can.kept.demanded
      where
        go : (xs : List Exclusion) → AllByRecursion (λ (e : Exclusion). is_demand e ≡ true) xs → demands_of (xro_said xs) ≡ xs
        go [] all = refl
        go (x ∷ xs) all = all_pass is_demand (x ∷ xs) all

    asks_same : query_of next.0 os ≡ query_in w.query next
    asks_same =
        ap (λ ms. query_by next (metric_of_type (asked_type ms)) (bound_of ms) (bandwidth_of os) (masks_of os) (demands_of (xro_of os))) metrics_are
        ∙ ap (λ k. query_by next k (bound_of ((false, type_of_metric m, 0) ∷ bound_said m w.bound_word)) (bandwidth_of os) (masks_of os) (demands_of (xro_of os))) (metric_back m)
        ∙ ap (λ o. query_by next m o (bandwidth_of os) (masks_of os) (demands_of (xro_of os))) (bound_back m w.bound_word)
        ∙ ap (λ o. query_by next m w.bound_word o (masks_of os) (demands_of (xro_of os))) bandwidth_is
        ∙ ap (λ o. query_by next m w.bound_word w.bandwidth_word o (demands_of (xro_of os))) masks_are
        ∙ ap (λ xs. query_by next m w.bound_word w.bandwidth_word w.masks xs) exclusions_are
        ∙ ap (λ q. query_in q next) (sym can.query)

    wanted_same : wanted_of next.0 os (w.source, t) ≡ record w { target = t; query = query_in w.query next; sequence = s }
    wanted_same =
        ap (λ q. made q (bandwidth_of os) (bound_of (metrics_of os)) (masks_of os) (sequence_of (iro_of os))) asks_same
        ∙ ap (λ o. made (query_in w.query next) o (bound_of (metrics_of os)) (masks_of os) (sequence_of (iro_of os))) bandwidth_is
        ∙ ap (λ o. made (query_in w.query next) w.bandwidth_word o (masks_of os) (sequence_of (iro_of os))) (ap bound_of metrics_are ∙ bound_back m w.bound_word)
        ∙ ap (λ o. made (query_in w.query next) w.bandwidth_word w.bound_word o (sequence_of (iro_of os))) masks_are
        ∙ ap (λ l. made (query_in w.query next) w.bandwidth_word w.bound_word w.masks l) (ap sequence_of iro_is ∙ sequence_back s)
      where
        made : Query → Option ℕ → Option ℕ → Option (ℕ × ℕ × ℕ) → List As → Wanted
        made q b c k l = record { source = w.source; target = t; query = q; bandwidth_word = b; bound_word = c; masks = k; sequence = l }

    pub is_admitted : Admits wire (asked_of id w t s) next vspt_flag id (record w { target = t; query = query_in w.query next; sequence = s })
    is_admitted =
        subst (λ (v : Wanted). Admits wire (asked_of id w t s) next vspt_flag id v) wanted_same
        (admits_from next (asked_of id w t s) vspt_flag id (w.source, t) not_refused refl refl (ap without_bit (ends_are next.0 serves)))

-- the number of an element is not that of the parent
serves_all : (own : ℕ) (s t : Addr) → 1 ≤ own → Serves own s t
serves_all own s t some = ap (λ (b : Bool). b && (ends_kind s t == 2)) (ne_eqb own 0 (not_zero own some))
  where
    not_zero : (k : ℕ) → 1 ≤ k → k ≡ 0 → ⊥
    not_zero k le e = omega arith

pub admits : (a : Asked) (own : As) (flags x : ℕ) (w : Wanted) → Admits wire a own flags x w →
    (id : ℕ) (t : Addr) (next : As) (rest : List As) → 1 ≤ id → id < 2 ^ 32 → IsSequence next rest →
    Admits wire (asked_of id w t (next ∷ rest)) next vspt_flag id (record w { target = t; query = query_in w.query next; sequence = next ∷ rest })
admits a own flags x w h id t next rest some fits is =
    is_admitted id w t (next ∷ rest) next some (can_ask own a.objects flags x w (admitted_is a own flags x w h)) (can_go next rest is)
    (serves_all next.0 w.source t (All-head (λ (a : As). 1 ≤ a.0) next rest is.real))

pub admits_upward : (a : Asked) (own : As) (flags x : ℕ) (w : Wanted) → Admits wire a own flags x w → ends_kind w.source w.target ≡ 1 → (id : ℕ) → 1 ≤ id → id < 2 ^ 32 →
    Admits wire (asked_of id w w.target []) parent_as vspt_flag id (record w { query = query_in w.query parent_as; sequence = [] })
admits_upward a own flags x w h first id some fits =
    is_admitted id w w.target [] parent_as some (can_ask own a.objects flags x w (admitted_is a own flags x w h)) refl (ap (λ (k : ℕ). k == 2) first)

-- END-POINTS of IPv6 are not served by the parent
pub refuses_upward : (w : Wanted) (id : ℕ) → ends_kind w.source w.target ≡ 2 → check_of (asked_of id w w.target []) parent_as ≡ Wrong (Some (vspt_flag, id)) 4 2
refuses_upward w id second =
    ap check (flat id w w.target []) ∙ ap (λ (k : ℕ). check (needed 2 (bodies.Rp vspt_flag id) ∷ with_kind k ∷ (lspa w.masks ++ after_lspa id w w.target []))) second
  where
    check : List Object → Checked
    check objects = check_of (record { objects = objects }) parent_as

    with_kind : ℕ → Object
    with_kind k = record { class = 4; kind = k; must = true; body = bodies.EndPoints w.source w.target }
