-- Domains that words name, the first and the others.
use Rattle.std.proofs.Common.{◌≡◌, ℕ, ◌+◌, Bool, true, false, ◌&&◌, cond, List, [], ◌∷◌, Option, Some, None, refl, sym, ap, subst, ◌∙◌, ◌≤◌, length, map, arith}
use Rattle.std.specs.Prelude.{is_some, nat_le}
use Rattle.client_laws.specs.plant_model.Types.{Addr, As}
use Rattle.dom_base.specs.Steps.{◌>>=◌}
use Rattle.pce_tool.specs.declared.route.Route.{Route}
use Rattle.pce_tool.specs.Tasks.{along_in, are_different, are_sequence, domain_in, domains_in, route_along, sequence_most}

-- what the words name, where all are domains
parted : (o : Option As) (os : Option (List As)) → is_some (o >>= λ d. os >>= λ ds. Some (d ∷ ds)) ≡ true → (d : As) × (o ≡ Some d) × (is_some os ≡ true)
parted None os is = absurd (cc)
parted (Some d) None is = absurd (cc)
parted (Some d) (Some ds) is = (d, refl, refl)

pub first_and_others : (word : List ℕ) (words : List (List ℕ)) → is_some (domains_in (word ∷ words)) ≡ true → (d : As) × (domain_in word ≡ Some d) × (is_some (domains_in words) ≡ true)
first_and_others word words is = parted (domain_in word) (domains_in words) is

-- ---- sequences

pub no_sequence : (words : List (List ℕ)) → false ≡ is_some (domains_in words) → false ≡ are_sequence (domains_in words)
no_sequence words is = none (domains_in words) is
  where
    none : (o : Option (List As)) → false ≡ is_some o → false ≡ are_sequence o
    none None bad = refl
    none (Some ds) bad = absurd (cc)

more : (o : Option As) (os : Option (List As)) (count : ℕ) → ((ds : List As) → os ≡ Some ds → length ds ≡ count) → (ds : List As) → (o >>= λ d. os >>= λ es. Some (d ∷ es)) ≡ Some ds →
    length ds ≡ 1 + count
more None os count each ds is = absurd (cc)
more (Some d) None count each ds is = absurd (cc)
more (Some d) (Some es) count each ds is =
    let same : d ∷ es ≡ ds = cc in
    let counted : length es ≡ count = each es refl in
    omega (arith, ap (λ (l : List As). length l) same, counted)

as_many : (words : List (List ℕ)) (ds : List As) → domains_in words ≡ Some ds → length ds ≡ length words
as_many [] ds is =
    let same : [] ≡ ds = cc in
    sym (ap (λ (l : List As). length l) same)
as_many (word ∷ words) ds is =
    omega (arith, more (domain_in word) (domains_in words) (length words) (λ es known. as_many words es known) ds is)

-- the words are some
pub sequence_is : (word : List ℕ) (words : List (List ℕ)) (short different : Bool) → true ≡ is_some (domains_in (word ∷ words)) → short ≡ nat_le (length (word ∷ words)) sequence_most →
    ((ds : List As) → domains_in (word ∷ words) ≡ Some ds → different ≡ are_different ds) → (short && different) ≡ are_sequence (domains_in (word ∷ words))
sequence_is word words short different some small differ =
    by (domains_in (word ∷ words)) some (λ ds is. as_many (word ∷ words) ds is) differ
  where
    by : (o : Option (List As)) → true ≡ is_some o → ((ds : List As) → o ≡ Some ds → length ds ≡ length (word ∷ words)) → ((ds : List As) → o ≡ Some ds → different ≡ are_different ds) →
        (short && different) ≡ are_sequence o
    by None is count each = absurd (cc)
    by (Some []) is count each = absurd (omega (arith, count [] refl))
    by (Some (d ∷ ds)) is count each =
        let many = count (d ∷ ds) refl in
        ap (λ (b : Bool). b && different) (small ∙ ap (λ (k : ℕ). nat_le k sequence_most) (sym many))
        ∙ ap (λ (b : Bool). nat_le (length (d ∷ ds)) sequence_most && b) (each (d ∷ ds) refl)

pub sequence_if_different : {X : Type 0} (f : X → List ℕ) (words : List X) (different : Bool) → 1 ≤ length words → true ≡ is_some (domains_in (map f words)) →
    true ≡ nat_le (length (map f words)) sequence_most → ((ds : List As) → domains_in (map f words) ≡ Some ds → different ≡ are_different ds) → different ≡ are_sequence (domains_in (map f words))
sequence_if_different f [] different least some short differ = absurd (omega (arith, least))
sequence_if_different f (x ∷ xs) different least some short differ = sequence_is (f x) (map f xs) true different some short differ

long_by : (words : List (List ℕ)) (o : Option (List As)) → ((ds : List As) → o ≡ Some ds → length ds ≡ length words) → false ≡ nat_le (length words) sequence_most → false ≡ are_sequence o
long_by words None count long = refl
long_by words (Some []) count long = refl
long_by words (Some (d ∷ ds)) count long =
    let many = count (d ∷ ds) refl in
    ap (λ (b : Bool). b && are_different (d ∷ ds)) (long ∙ ap (λ (k : ℕ). nat_le k sequence_most) (sym many))

pub no_long_sequence : (words : List (List ℕ)) → false ≡ nat_le (length words) sequence_most → false ≡ are_sequence (domains_in words)
no_long_sequence words long = long_by words (domains_in words) (λ ds is. as_many words ds is) long

pub no_route : (source target : Addr) (words : List (List ℕ)) → false ≡ are_sequence (domains_in words) → None ≡ along_in source target words
no_route source target words is = none (domains_in words) is
  where
    none : (o : Option (List As)) → false ≡ are_sequence o → None ≡ (o >>= route_along source target)
    none None bad = refl
    none (Some []) bad = refl
    none (Some (d ∷ ds)) bad = ap (λ (b : Bool). cond b (Some (record { at = d; source = source; target = target; sequence = d ∷ ds })) None) bad

pub some_route : (source target : Addr) (words : List (List ℕ)) (ds : List As) (route : Option Route) → domains_in words ≡ Some ds → (are_sequence (Some ds) ≡ true → route ≡ route_along source target ds) →
    true ≡ are_sequence (domains_in words) → route ≡ along_in source target words
some_route source target words ds route is made good =
    made (sym (good ∙ ap are_sequence is)) ∙ sym (ap (λ (o : Option (List As)). o >>= route_along source target) is)

pub are_named : (words : List (List ℕ)) → true ≡ are_sequence (domains_in words) → is_some (domains_in words) ≡ true
are_named words is = some (domains_in words) is
  where
    some : (o : Option (List As)) → true ≡ are_sequence o → is_some o ≡ true
    some None bad = absurd (cc)
    some (Some ds) good = refl

pub asks_for_one : (source target : Addr) (words : List (List ℕ)) → true ≡ are_sequence (domains_in words) → is_some (along_in source target words) ≡ true
asks_for_one source target words is = some (domains_in words) is
  where
    some : (o : Option (List As)) → true ≡ are_sequence o → is_some (o >>= route_along source target) ≡ true
    some None bad = absurd (cc)
    some (Some []) bad = absurd (cc)
    some (Some (d ∷ ds)) good = subst (λ (b : Bool). is_some {T = Route} (cond b (Some (record { at = d; source = source; target = target; sequence = d ∷ ds })) None) ≡ true) good refl
