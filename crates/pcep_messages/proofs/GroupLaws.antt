-- Groups that are written one behind the other are cut apart again.
use Rattle.std.proofs.Common.{◌≡◌, ℕ, Bool, true, false, List, [], ◌∷◌, ◌++◌, map, Option, Some, None, refl, sym, ap, ◌∙◌, arith}
use Rattle.std.specs.Prelude.{◌||◌, IsSome}
use Rattle.std.specs.List.{flat_map, filter_map, list_any, AllByRecursion}
use Rattle.std.proofs.lemmas.List.Concat.{flat_map-cons}
use Rattle.pcep_objects.specs.declared.object.Body.TheVariants as bodies
use Rattle.pcep_objects.specs.declared.object.Object.{Object}
use Rattle.pcep_messages.specs.declared.groups.Closer.TheVariants as closers
use Rattle.pcep_messages.specs.declared.message.Asked.{Asked}
use Rattle.pcep_messages.specs.declared.message.Reply.{Reply}
use Rattle.pcep_messages.specs.declared.message.Answer.{Answer}
use Rattle.pcep_messages.specs.declared.message.Answer.TheVariants as answers
use Rattle.pcep_messages.specs.declared.message.Path.{Path}
use Rattle.pcep_messages.specs.Groups.{is_rp, cut, all_groups, begin_with, go_on_with, closes_by, asked_of, requests_of, reply_groups, reply_of, answer_of, paths_of, first_said, no_path_in}
use Rattle.pcep_messages.specs.Spelling.{BeginsRequest, AreMeasured, HasPart, plain, path_objects, metric_objects, answer_objects, reply_objects}

or_false : (a b : Bool) → (a || b) ≡ false → (a ≡ false) × (b ≡ false)
or_false true b e = absurd cc
or_false false b e = (refl, e)

abbrev pub joined : List (List Object) → List Object
joined gs = flat_map (λ (g : List Object). g) gs

-- ---- groups of one RP each

-- the rest of a group is passed
rest_of_group : (os rest : List Object) (others : List (List Object)) → list_any is_rp os ≡ false → cut (closes_by closers.Rp) true rest ≡ ([], others) → cut (closes_by closers.Rp) true (os ++ rest) ≡ (os, others)
rest_of_group [] rest others none e = e
rest_of_group (o ∷ os) rest others none e =
    let n = or_false (is_rp o) (list_any is_rp os) none in
    rw n.0 (ap (go_on_with o) (rest_of_group os rest others n.1 e))

later_groups : (gs : List (List Object)) → AllByRecursion BeginsRequest gs → cut (closes_by closers.Rp) true (joined gs) ≡ ([], gs)
later_groups [] fits = refl
later_groups ([] ∷ gs) fits = absurd fits.0
later_groups ((o ∷ os) ∷ gs) fits =
    ap (cut (closes_by closers.Rp) true) (flat_map-cons (λ (g : List Object). g) (o ∷ os) gs)
    ∙ rw fits.0.0 (ap (begin_with o) (rest_of_group os (joined gs) gs fits.0.1 (later_groups gs fits.1)))

pub groups_again : (gs : List (List Object)) → HasPart gs → AllByRecursion BeginsRequest gs → requests_of (joined gs) ≡ gs
groups_again [] some fits = absurd (omega arith)
groups_again ([] ∷ gs) some fits = absurd fits.0
groups_again ((o ∷ os) ∷ gs) some fits =
    ap (λ w. all_groups (cut (closes_by closers.Rp) false w)) (flat_map-cons (λ (g : List Object). g) (o ∷ os) gs)
    ∙ rw fits.0.0 (ap (λ r. all_groups (go_on_with o r)) (rest_of_group os (joined gs) gs fits.0.1 (later_groups gs fits.1)))

pub reply_groups_again : (gs : List (List Object)) → AllByRecursion BeginsRequest gs → reply_groups (joined gs) ≡ gs
reply_groups_again gs fits = ap (λ r. r.1) (later_groups gs fits)

-- ---- answers

said_nothing : (ps : List Path) → first_said no_path_in (flat_map path_objects ps) ≡ None
said_nothing [] = refl
said_nothing (p ∷ ps) = ap (first_said no_path_in) (flat_map-cons path_objects p ps) ∙ by_metric (said_nothing ps) p.metric
  where
    by_metric : first_said no_path_in (flat_map path_objects ps) ≡ None → (m : Option (ℕ × ℕ)) → first_said no_path_in ((plain 7 (bodies.Ero p.hops) ∷ metric_objects m) ++ flat_map path_objects ps) ≡ None
    by_metric others None = others
    by_metric others (Some m) = others

measured_again : (ps : List Path) → AllByRecursion (λ (p : Path). IsSome p.metric) ps → paths_of (flat_map path_objects ps) ≡ ps
measured_again [] fits = refl
measured_again (p ∷ ps) fits = ap paths_of (flat_map-cons path_objects p ps) ∙ by_metric (measured_again ps fits.1) p.metric fits.0
  where
    by_metric : paths_of (flat_map path_objects ps) ≡ ps → (m : Option (ℕ × ℕ)) → IsSome m → paths_of ((plain 7 (bodies.Ero p.hops) ∷ metric_objects m) ++ flat_map path_objects ps) ≡ record { hops = p.hops; metric = m } ∷ ps
    by_metric others None h = absurd cc
    by_metric others (Some m) h = ap (λ qs. record { hops = p.hops; metric = Some m } ∷ qs) others

one_again : (p : Path) → paths_of (path_objects p ++ []) ≡ p ∷ []
one_again p = by_metric p.metric
  where
    by_metric : (m : Option (ℕ × ℕ)) → paths_of ((plain 7 (bodies.Ero p.hops) ∷ metric_objects m) ++ []) ≡ record { hops = p.hops; metric = m } ∷ []
    by_metric None = refl
    by_metric (Some m) = refl

answer_again : (a : Answer) → AreMeasured a → answer_of (answer_objects a) ≡ a
answer_again (answers.NoPath nature vector) fits = refl
answer_again (answers.Paths []) fits = refl
answer_again (answers.Paths (p ∷ [])) fits = rw (said_nothing (p ∷ [])) (ap (λ ps. answers.Paths ps) (ap paths_of (flat_map-cons path_objects p []) ∙ one_again p))
answer_again (answers.Paths (p ∷ q ∷ ps)) fits = rw (said_nothing (p ∷ q ∷ ps)) (ap (λ ps. answers.Paths ps) (measured_again (p ∷ q ∷ ps) fits))

no_rp_in_paths : (ps : List Path) → list_any is_rp (flat_map path_objects ps) ≡ false
no_rp_in_paths [] = refl
no_rp_in_paths (p ∷ ps) = ap (list_any is_rp) (flat_map-cons path_objects p ps) ∙ by_metric (no_rp_in_paths ps) p.metric
  where
    by_metric : list_any is_rp (flat_map path_objects ps) ≡ false → (m : Option (ℕ × ℕ)) → list_any is_rp ((plain 7 (bodies.Ero p.hops) ∷ metric_objects m) ++ flat_map path_objects ps) ≡ false
    by_metric others None = others
    by_metric others (Some m) = others

no_rp_in_answer : (a : Answer) → list_any is_rp (answer_objects a) ≡ false
no_rp_in_answer (answers.NoPath nature vector) = refl
no_rp_in_answer (answers.Paths ps) = no_rp_in_paths ps

pub flat_map-joined : {X : Type 0} (f : X → List Object) (xs : List X) → flat_map f xs ≡ joined (map f xs)
flat_map-joined f [] = refl
flat_map-joined f (x ∷ xs) = flat_map-cons f x xs ∙ ap (λ w. f x ++ w) (flat_map-joined f xs) ∙ sym (flat_map-cons (λ (g : List Object). g) (f x) (map f xs))

replies_begin : (rs : List Reply) → AllByRecursion BeginsRequest (map reply_objects rs)
replies_begin [] = tt
replies_begin (r ∷ rs) = ((refl, no_rp_in_answer r.answer), replies_begin rs)

replies_said : (rs : List Reply) → AllByRecursion (λ (r : Reply). AreMeasured r.answer) rs → filter_map reply_of (map reply_objects rs) ≡ rs
replies_said [] fits = refl
replies_said (r ∷ rs) fits = rw (answer_again r.answer fits.0) (ap (λ others. r ∷ others) (replies_said rs fits.1))

pub replies_again : (rs : List Reply) → AllByRecursion (λ (r : Reply). AreMeasured r.answer) rs → filter_map reply_of (reply_groups (flat_map reply_objects rs)) ≡ rs
replies_again rs fits =
    ap (λ os. filter_map reply_of (reply_groups os)) (flat_map-joined reply_objects rs)
    ∙ ap (filter_map reply_of) (reply_groups_again (map reply_objects rs) (replies_begin rs))
    ∙ replies_said rs fits

requests_begin : (asked : List Asked) → AllByRecursion (λ (a : Asked). BeginsRequest a.objects) asked → AllByRecursion BeginsRequest (map (λ (a : Asked). a.objects) asked)
requests_begin [] fits = tt
requests_begin (a ∷ asked) fits = (fits.0, requests_begin asked fits.1)

requests_said : (asked : List Asked) → map asked_of (map (λ (a : Asked). a.objects) asked) ≡ asked
requests_said [] = refl
requests_said (a ∷ asked) = ap (λ others. a ∷ others) (requests_said asked)

has_part : (asked : List Asked) → HasPart asked → HasPart (map (λ (a : Asked). a.objects) asked)
has_part [] some = some
has_part (a ∷ asked) some = omega arith

pub requests_again : (asked : List Asked) → HasPart asked → AllByRecursion (λ (a : Asked). BeginsRequest a.objects) asked → map asked_of (requests_of (flat_map (λ (a : Asked). a.objects) asked)) ≡ asked
requests_again asked some fits =
    ap (λ os. map asked_of (requests_of os)) (flat_map-joined (λ (a : Asked). a.objects) asked)
    ∙ ap (map asked_of) (groups_again (map (λ (a : Asked). a.objects) asked) (has_part asked some) (requests_begin asked fits))
    ∙ requests_said asked
