-- How many octets a question takes.
use Rattle.std.proofs.Common.{◌≡◌, ◌≤◌, ◌+◌, ◌*◌, ℕ, Option, Some, None, List, [], ◌∷◌, ◌++◌, length, map, refl, ap, arith, length-append}
use Rattle.std.proofs.lemmas.List.{append-nil}
use Rattle.plant_play.specs.plant_model.Types.{As, Addr, Object}
use Rattle.dom_base.specs.declared.addr.Addr.TheVariants.{V4, V6}
use Rattle.pcep_subobjects.specs.Hops.{hop_text, hops_text}
use Rattle.pcep_objects.specs.Spelling.{object_text}
use Rattle.pcep_messages.specs.Spelling.{objects_text}
use Rattle.plant_play.specs.plant_model.Writing.{as_hop, bandwidth, ends, iro}
use Rattle.plant_client.specs.declared.question.Question.{Question}
use Rattle.plant_client.specs.Questions.{question_text, sequence_most}

hops_long : (domains : List As) → length (hops_text (map as_hop domains)) ≡ 4 * length domains
hops_long [] = refl
hops_long (a ∷ rest) = omega (arith, length-append (hop_text (as_hop a)) (hops_text (map as_hop rest)), hops_long rest)

iro_long : (domains : List As) → length (objects_text (iro domains)) ≤ 4 + 4 * length domains
iro_long [] = omega arith
iro_long (a ∷ rest) = omega (arith, hops_long (a ∷ rest), length-append (hops_text (map as_hop (a ∷ rest))) [])

ends_long : (source target : Addr) → length (object_text (ends source target)) ≤ 36
ends_long (V4 m) (V4 n) = omega arith
ends_long (V4 m) (V6 n) = omega arith
ends_long (V6 m) (V4 n) = omega arith
ends_long (V6 m) (V6 n) = omega arith

bandwidth_long : (o : Option ℕ) (rest : List Object) → length (objects_text (bandwidth o ++ rest)) ≤ 8 + length (objects_text rest)
bandwidth_long None rest = omega arith
bandwidth_long (Some word) rest = omega arith

text_long : (q : Question) → length (question_text q) ≡ 16 + (length (object_text (ends q.source q.target)) + length (objects_text ((bandwidth q.bandwidth ++ iro q.sequence) ++ [])))
text_long q = simp (length-append) (omega arith)

-- a question takes few octets
pub question_few : (q : Question) → length q.sequence ≤ sequence_most → length (question_text q) ≤ 132
question_few q few =
    omega (arith, text_long q, ends_long q.source q.target, iro_long q.sequence, bandwidth_long q.bandwidth (iro q.sequence), ap (λ (os : List Object). length (objects_text os)) (append-nil (bandwidth q.bandwidth ++ iro q.sequence)), few)

pub question_short : (q : Question) → length q.sequence ≤ sequence_most → length (question_text q) ≤ 65532
question_short q few = omega (arith, question_few q few)
