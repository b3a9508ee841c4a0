-- How many octets objects of one size take.
use Rattle.std.proofs.Common.{◌≡◌, ℕ, ◌*◌, List, [], ◌∷◌, length, map, refl, ap, ◌∙◌, arith}
use Rattle.std.proofs.lemmas.List.Concat.{flat_map-cons}
use Rattle.pcep_objects.specs.Spelling.{object_text}
use Rattle.pcep_messages.specs.Spelling.{id_object, kind_object, error_object, objects_text}

pub length-ids : (ids : List (ℕ × ℕ)) → length (objects_text (map id_object ids)) ≡ length ids * 12
length-ids [] = refl
length-ids (i ∷ ids) = ap length (flat_map-cons object_text (id_object i) (map id_object ids)) ∙ omega (arith, length-ids ids)

pub length-kinds : (kinds : List (ℕ × ℕ)) → length (objects_text (map kind_object kinds)) ≡ length kinds * 8
length-kinds [] = refl
length-kinds (k ∷ kinds) = ap length (flat_map-cons object_text (kind_object k) (map kind_object kinds)) ∙ omega (arith, length-kinds kinds)

pub length-errors : (errors : List (ℕ × ℕ)) → length (objects_text (map error_object errors)) ≡ length errors * 8
length-errors [] = refl
length-errors (e ∷ errors) = ap length (flat_map-cons object_text (error_object e) (map error_object errors)) ∙ omega (arith, length-errors errors)

pub ruleset sizes = (length-ids, length-kinds, length-errors)
