-- What the words of `path` name are numbers of their types.
use Rattle.std.proofs.Common.{◌≡◌, ◌≤◌, ◌<◌, ◌^◌, ◌-◌, ◌==◌, ℕ, Bool, true, false, List, [], ◌∷◌, All, length, Option, Some, None, if◌then◌else◌, nat_le, codes, slice_index, refl, sym, ◌∙◌, ap, subst, arith}
use Rattle.std.specs.Str.{bytes_eq}
use Rattle.std.proofs.lemmas.Bool.{and_parts, eqb-true, leb-true}
use Rattle.std.proofs.lemmas.List.Elements.{All-nil, All-cons}
use Rattle.client_laws.specs.plant_model.Types.{Addr, As}
use Rattle.dom_base.specs.AddrText.{addr_in}
use Rattle.dom_base.specs.Numerals.{number_in}
use Rattle.dom_base.specs.Steps.{◌>>=◌}
use Rattle.dom_base.proofs.NumeralLaws.{at_most}
use Rattle.pcep_subobjects.specs.Addresses.{IsAddr, bits_of}
use Rattle.client_laws.proofs.run_laws.TextLemmas.AddrRanges.{addr_in_range, by_parts}
use Rattle.client_laws.proofs.Written.{IsInRange}
use Rattle.plant_client.specs.plant_play.declared.replaying.Span.{Span}
use Rattle.pce_tool.specs.declared.route.Route.{Route}
use Rattle.pce_tool.specs.Networks.{question_of}
use Rattle.pce_tool.specs.Run.{Command, command_of}
use Rattle.pce_tool.specs.Tasks.{Blind, Bulk, Check, Path, Play, Replay, are_alike, are_different, count_in, domain_in, domains_in, is_sequence, lines_task, network_task, path_in, path_task, route_along, route_by, route_in, route_up, sequence_most, span_in, task_of, task_or, word_below}

-- what is only found where a test holds, and where it fails
where_holds : {Y : Type 0} (b : Bool) (o : Option Y) (y : Y) → (if b then o else None) ≡ Some y → (b ≡ true) × (o ≡ Some y)
where_holds true o y is = (refl, is)
where_holds false o y is = absurd (cc)

where_fails : {Y : Type 0} (b : Bool) (o : Option Y) (y : Y) → (if b then None else o) ≡ Some y → o ≡ Some y
where_fails true o y is = absurd (cc)
where_fails false o y is = is

-- ---- domains

abbrev IsDomain : As → Type 0
IsDomain d = d.0 < 2 ^ 16

as_of : ℕ → As
as_of n = record { 0 = n }

domain_below : (word : List ℕ) (d : As) → domain_in word ≡ Some d → IsDomain d
domain_below word d is =
    let number = by_parts (number_in (2 ^ 16 - 1) word) (λ n. Some (let a : As = record { 0 = n } in a)) d (where_fails (slice_index word 0 == 48) _ d is) in
    let same : (let a : As = record { 0 = number.0 } in a) ≡ d = cc in
    omega (arith, at_most (2 ^ 16 - 1) number.0 word number.1, ap (λ (a : As). a.0) same)

domains_below : (words : List (List ℕ)) (ds : List As) → domains_in words ≡ Some ds → All IsDomain ds
domains_below [] ds is = let same : [] ≡ ds = cc in subst (All IsDomain) same (All-nil IsDomain)
domains_below (word ∷ words) ds is =
    let first = by_parts (domain_in word) _ ds is in
    let others = by_parts (domains_in words) _ ds first.2 in
    let same : first.0 ∷ others.0 ≡ ds = cc in
    subst (All IsDomain) same (All-cons IsDomain first.0 others.0 (domain_below word first.0 first.1) (domains_below words others.0 others.1))

-- ---- routes

-- a route between these two ends
record Leads (s t : Addr) (r : Route) : Type 0 where
  source : r.source ≡ s
  target : r.target ≡ t
  sequence : All IsDomain r.sequence
  few : length r.sequence ≤ 16

along : (s t : Addr) (ds : List As) (r : Route) → All IsDomain ds → route_along s t ds ≡ Some r → Leads s t r
along s t [] r all is = absurd (cc)
along s t (d ∷ ds) r all is =
    let short = where_holds (is_sequence (d ∷ ds)) _ r is in
    let same : (let x : Route = record { at = d; source = s; target = t; sequence = d ∷ ds } in x) ≡ r = cc in
    subst (Leads s t) same (record { source = refl; target = refl; sequence = all; few = leb-true (length (d ∷ ds)) 16 (and_parts (nat_le (length (d ∷ ds)) sequence_most) (are_different (d ∷ ds)) short.0).0 })

led : (s t : Addr) (words : List (List ℕ)) (o : Option (List ℕ)) (r : Route) → route_by s t words o ≡ Some r → Leads s t r
led s t words None r is =
    let ds = by_parts (domains_in words) (route_along s t) r is in
    along s t ds.0 r (domains_below words ds.0 ds.1) ds.2
led s t words (Some word) r is =
    let d = by_parts (domain_in word) (route_up s t) r is in
    let same : (let x : Route = record { at = d.0; source = s; target = t; sequence = [] } in x) ≡ r = cc in
    subst (Leads s t) same (record { source = refl; target = refl; sequence = All-nil IsDomain; few = omega arith })

pub route_in_range : (source target : List ℕ) (words : List (List ℕ)) (r : Route) → path_in source target words ≡ Some r → IsInRange (question_of r)
route_in_range source target words r is =
    let s = by_parts (addr_in source) _ r is in
    let t = by_parts (addr_in target) _ r s.2 in
    let alike = where_holds (are_alike s.0 t.0) (route_in s.0 t.0 words) r t.2 in
    let l = led s.0 t.0 words (word_below words) r alike.1 in
    record {
      id = omega arith;
      source = subst IsAddr (sym l.source) (addr_in_range source s.0 s.1);
      target = subst IsAddr (sym l.target) (addr_in_range target t.0 t.1);
      alike = ap bits_of l.source ∙ eqb-true (bits_of s.0) (bits_of t.0) alike.0 ∙ ap bits_of (sym l.target);
      bandwidth = tt;
      sequence = l.sequence;
      few = omega (arith, l.few);
    }

-- ---- all words

no_file : (net word : List ℕ) (r : Route) (plays replays blinds bulks checks : Bool) (o : Option ℕ) →
    (if plays then Some (Play word) else (if replays then Some (Replay word None) else (if blinds then Some (Blind word) else (if bulks then (o >>= λ n. Some (Bulk n)) else (if checks then Some (Check word) else None))))) ≡ Some (Path net r) → ⊥
no_file net word r true replays blinds bulks checks o is = cc
no_file net word r false true blinds bulks checks o is = cc
no_file net word r false false true bulks checks o is = cc
no_file net word r false false false false true o is = cc
no_file net word r false false false false false o is = cc
no_file net word r false false false true checks None is = cc
no_file net word r false false false true checks (Some n) is = cc

no_span : (net one : List ℕ) (r : Route) (o : Option Span) → (o >>= λ s. Some (Replay one (Some s))) ≡ Some (Path net r) → ⊥
no_span net one r None is = cc
no_span net one r (Some s) is = cc

no_lines : (net one from to : List ℕ) (words : List (List ℕ)) (r : Route) (replays : Bool) → (if replays then lines_task one from to words else None) ≡ Some (Path net r) → ⊥
no_lines net one from to words r false is = cc
no_lines net one from to (word ∷ words) r true is = cc
no_lines net one from to [] r true is = no_span net one r (span_in from to) is

path_or : (net one source target : List ℕ) (words : List (List ℕ)) (r : Route) (paths replays : Bool) →
    (if paths then path_task one source target words else (if replays then lines_task one source target words else None)) ≡ Some (Path net r) → path_task one source target words ≡ Some (Path net r)
path_or net one source target words r true replays is = is
path_or net one source target words r false replays is = absurd (no_lines net one source target words r replays is)

named : (words : List (List ℕ)) (net : List ℕ) (r : Route) → network_task words ≡ Some (Path net r) → IsInRange (question_of r)
named [] net r is = absurd (cc)
named (verb ∷ []) net r is = absurd (cc)
named (verb ∷ word ∷ []) net r is =
    absurd (no_file net word r (bytes_eq verb (codes "play")) (bytes_eq verb (codes "replay")) (bytes_eq verb (codes "blind")) (bytes_eq verb (codes "bulk")) (bytes_eq verb (codes "check")) (count_in word) is)
named (verb ∷ one ∷ source ∷ []) net r is = absurd (cc)
named (verb ∷ one ∷ source ∷ target ∷ words) net r is =
    let path = path_or net one source target words r (bytes_eq verb (codes "path")) (bytes_eq verb (codes "replay")) is in
    let route = by_parts (path_in source target words) (λ x. Some (Path one x)) (Path net r) path in
    let same : route.0 ≡ r = cc in
    route_in_range source target words r (route.1 ∙ ap (λ (x : Route). Some x) same)

-- the question of words that ask for a path
pub asked_in_range : (words : List (List ℕ)) (net : List ℕ) (r : Route) → task_of words ≡ Some (Path net r) → IsInRange (question_of r)
asked_in_range words net r is = named words net r (go (command_of words) is)
  where
    go : (o : Option Command) → task_or (network_task words) o ≡ Some (Path net r) → network_task words ≡ Some (Path net r)
    go None is' = is'
    go (Some c) is' = absurd (cc)
