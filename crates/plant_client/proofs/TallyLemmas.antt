-- One answer more.
use Rattle.std.proofs.Common.{◌≡◌, ◌+◌, ◌∙◌, ℕ, cond, max, List, [], ◌∷◌, ◌++◌, length, sum, count_by, ap, arith, length-append}
use Rattle.std.specs.List.{cons_option}
use Rattle.std.proofs.lemmas.List.{append-nil}
use Rattle.std.proofs.lemmas.List.Elements.{filter_map-append}
use Rattle.std.proofs.lemmas.List.Sums.{sum_by-append}
use Rattle.plant_client.specs.declared.hearing.Heard.{Heard}
use Rattle.plant_client.specs.declared.hearing.Heard.TheVariants as heard
use Rattle.plant_client.specs.Hearing.{heard_in}
use Rattle.plant_client.specs.declared.tally.Tally.{Tally}
use Rattle.plant_client.specs.Tallies.{cost_in, costs_in, greatest, is_no_path, tally_of, with_heard}

sum_more : (cs : List ℕ) (c : ℕ) → sum (cs ++ c ∷ []) ≡ sum cs + c
sum_more cs c = let both : sum (cs ++ c ∷ []) ≡ sum cs + (0 + c) = sum_by-append (λ (x : ℕ). x) cs (c ∷ []) in omega (arith, both)

greatest_more : (cs : List ℕ) (c : ℕ) → greatest (cs ++ c ∷ []) ≡ max (greatest cs) c
greatest_more [] c = omega arith
greatest_more (x ∷ cs) c = omega (arith, greatest_more cs c)

abbrev made : List ℕ → ℕ → Tally
made costs none = record { paths = length costs; none = none; sum = sum costs; greatest = greatest costs }

one_cost : (cs : List ℕ) (n c : ℕ) → made (cs ++ c ∷ []) n ≡ with_heard (made cs n) (heard.Path c)
one_cost cs n c =
    let all = cs ++ c ∷ [] in
    let parts : ℕ → ℕ → ℕ → Tally = λ paths total most. record { paths = paths; none = n; sum = total; greatest = most } in
    ap (λ (k : ℕ). parts k (sum all) (greatest all)) (length-append cs (c ∷ []))
    ∙ (ap (λ (k : ℕ). parts (length cs + 1) k (greatest all)) (sum_more cs c)
    ∙ ap (λ (k : ℕ). parts (length cs + 1) (sum cs + c) k) (greatest_more cs c))

with_parts : (cs all : List ℕ) (n m : ℕ) (h : Heard) → all ≡ cs ++ cons_option (cost_in h) [] → m ≡ n + (0 + cond (is_no_path h) 1 0) → made all m ≡ with_heard (made cs n) h
with_parts cs all n m (heard.Path c) costs none =
    let same : m ≡ n = omega (arith, none) in
    ap (λ (l : List ℕ). made l m) costs ∙ (ap (λ (k : ℕ). made (cs ++ c ∷ []) k) same ∙ one_cost cs n c)
with_parts cs all n m heard.NoPath costs none =
    let more : m ≡ n + 1 = omega (arith, none) in
    ap (λ (l : List ℕ). made l m) (costs ∙ append-nil cs) ∙ ap (λ (k : ℕ). made cs k) more
with_parts cs all n m heard.Nothing costs none =
    let same : m ≡ n = omega (arith, none) in
    ap (λ (l : List ℕ). made l m) (costs ∙ append-nil cs) ∙ ap (λ (k : ℕ). made cs k) same

pub tally_more : (received : List (List ℕ)) (came : List ℕ) → tally_of (received ++ came ∷ []) ≡ with_heard (tally_of received) (heard_in came)
tally_more received came =
    with_parts (costs_in received) (costs_in (received ++ came ∷ [])) (count_by (λ r. is_no_path (heard_in r)) received) (count_by (λ r. is_no_path (heard_in r)) (received ++ came ∷ [])) (heard_in came)
    (filter_map-append (λ r. cost_in (heard_in r)) received (came ∷ []))
    (sum_by-append (λ r. cond (is_no_path (heard_in r)) 1 0) received (came ∷ []))
