-- A question is one request, so it is not split.
use Rattle.std.proofs.Common.{◌≡◌, ℕ, ◌+◌, ◌*◌, ◌/◌, ◌%◌, ◌&&◌, ◌||◌, ◌==◌, Bool, true, false, cond, List, [], ◌∷◌, ◌++◌, length, map, take, Option, Some, None, Result, Ok, Err, refl, sym, ap, subst, ◌∙◌, arith}
use Rattle.std.specs.Prelude.{count_by, nat_le}
use Rattle.std.specs.List.{AllByRecursion, flat_map}
use Rattle.std.proofs.lemmas.Bool.{eq-eqb, le-leb}
use Rattle.std.proofs.lemmas.List.{length-append, take_at}
use Rattle.std.proofs.lemmas.List.Concat.{flat_map-cons}
use Rattle.std.proofs.lemmas.List.Sums.{sum_by-cons}
use Rattle.dom_base.proofs.NumberLaws.{half_back}
use Rattle.dom_base.proofs.Parts.{Again, all_again, front_nil}
use Rattle.plant_play.specs.plant_model.Types.{As, Object, Bad}
use Rattle.dom_base.specs.Parts.{half_at, parts_from}
use Rattle.pcep_codes.specs.declared.TheConstants.{VERSION}
use Rattle.pcep_codes.specs.declared.messages.TheConstants as types
use Rattle.pcep_objects.specs.Spelling.{body_text, object_text}
use Rattle.pcep_objects.specs.declared.object.Body.TheVariants as bodies
use Rattle.pcep_objects.specs.Spelling as objects
use Rattle.pcep_messages.specs.declared.message.Bad.TheVariants.{Malformed}
use Rattle.pcep_messages.specs.Spelling.{IsWritten, objects_in, objects_text}
use Rattle.pcep_messages.specs.Splitting.{begins_rp, chunks_of, frame_with, groups_of, octets_at, split_objects, split_of, up_to_rp}
use Rattle.run_laws.proofs.PeerLemmas.Streams.{object_aligned}
use Rattle.plant_client.specs.plant_play.plant_model.Writing.{bandwidth, ends, iro, needed}
use Rattle.plant_client.specs.declared.question.Question.{Question}
use Rattle.plant_client.specs.Questions.{question_message, question_text}

-- ---- the octets of an object

and_from : (a b : Bool) → a ≡ true → b ≡ true → (a && b) ≡ true
and_from true b h g = g
and_from false b h g = cc

-- the octets of an object, whatever follows them
object_chunk : (o : Object) → objects.IsWritten o → (rest : List ℕ) → octets_at (object_text o ++ rest) ≡ Ok (object_text o, length (object_text o))
object_chunk o fits rest =
    let c = object_text o in
    let n = length (body_text o.body) + 4 in
    let long : length c ≡ n = omega arith in
    let at : half_at (c ++ rest) 2 ≡ n = half_back n [] (omega (arith, fits.small)) in
    let aligned : n % 4 ≡ 0 = omega (arith, object_aligned o fits, long) in
    let all : length (c ++ rest) ≡ length c + length rest = length-append c rest in
    let test = and_from (nat_le 4 (length (c ++ rest))) (nat_le 4 n && ((n % 4 == 0) && nat_le n (length (c ++ rest)))) (le-leb 4 (length (c ++ rest)) (omega (arith, all, long)))
    (and_from (nat_le 4 n) ((n % 4 == 0) && nat_le n (length (c ++ rest))) (le-leb 4 n (omega arith))
    (and_from (n % 4 == 0) (nat_le n (length (c ++ rest))) (eq-eqb (n % 4) 0 aligned) (le-leb n (length (c ++ rest)) (omega (arith, all, long))))) in
    ap (by (length (c ++ rest))) at
    ∙ ap (λ (x : Bool). let r : Result (List ℕ × ℕ) (ℕ → Bad) = cond x (Ok (take n (c ++ rest), n)) (Err Malformed) in r) test
    ∙ ap (λ (l : List ℕ). let r : Result (List ℕ × ℕ) (ℕ → Bad) = Ok (l, n) in r) (take_at c rest n long)
    ∙ ap (λ (k : ℕ). let r : Result (List ℕ × ℕ) (ℕ → Bad) = Ok (c, k) in r) (sym long)
  where
    by : ℕ → ℕ → Result (List ℕ × ℕ) (ℕ → Bad)
    by long' k = cond (nat_le 4 long' && (nat_le 4 k && ((k % 4 == 0) && nat_le k long'))) (Ok (take k (object_text o ++ rest), k)) (Err Malformed)

abbrev IsChunk : List ℕ → Type 0
IsChunk c = (o : Object) × objects.IsWritten o × (c ≡ object_text o)

chunk_again : (c : List ℕ) → IsChunk c → Again octets_at (λ (o : List ℕ). o) c
chunk_again c is =
    subst (λ (x : List ℕ). Again octets_at (λ (o : List ℕ). o) x) (sym is.2) (record { some = omega arith; reads = λ rest. object_chunk is.0 is.1 rest })

are_chunks : (os : List Object) → AllByRecursion objects.IsWritten os → AllByRecursion IsChunk (map object_text os)
are_chunks [] fits = tt
are_chunks (o ∷ os) fits = ((o, fits.0, refl), are_chunks os fits.1)

flat_texts : (os : List Object) → flat_map object_text os ≡ flat_map (λ (c : List ℕ). c) (map object_text os)
flat_texts [] = refl
flat_texts (o ∷ os) =
    flat_map-cons object_text o os ∙ ap (λ (l : List ℕ). object_text o ++ l) (flat_texts os) ∙ sym (flat_map-cons (λ (c : List ℕ). c) (object_text o) (map object_text os))

chunks_are : (os : List Object) → AllByRecursion objects.IsWritten os → chunks_of (objects_text os) ≡ Ok (map object_text os)
chunks_are os fits =
    ap (λ (l : List ℕ). chunks_of l) (flat_texts os)
    ∙ sym (front_nil (parts_from octets_at 0 0 (flat_map (λ (c : List ℕ). c) (map object_text os))))
    ∙ all_again octets_at (λ (c : List ℕ). c) IsChunk chunk_again [] 0 (map object_text os) (are_chunks os fits)

-- ---- one request

count_more : (c : List ℕ) (cs : List (List ℕ)) → count_by begins_rp (c ∷ cs) ≡ cond (begins_rp c) 1 0 + count_by begins_rp cs
count_more c cs = sum_by-cons (λ y. cond (begins_rp y) 1 0) c cs

zero_left : (n : ℕ) → 0 + n ≡ n
zero_left n = omega arith

other : (o : Object) (os : List Object) → begins_rp (object_text o) ≡ false → count_by begins_rp (map object_text (o ∷ os)) ≡ count_by begins_rp (map object_text os)
other o os none = count_more (object_text o) (map object_text os) ∙ ap (λ (b : Bool). cond b 1 0 + count_by begins_rp (map object_text os)) none ∙ zero_left (count_by begins_rp (map object_text os))

iro_none : (domains : List As) → count_by begins_rp (map object_text (iro domains ++ [])) ≡ 0
iro_none [] = refl
iro_none (a ∷ rest) = refl

bandwidth_none : (o : Option ℕ) (domains : List As) → count_by begins_rp (map object_text ((bandwidth o ++ iro domains) ++ [])) ≡ 0
bandwidth_none None domains = iro_none domains
bandwidth_none (Some word) domains = iro_none domains

at_most_one : (b : Bool) (n : ℕ) → n ≡ 0 → nat_le 2 (cond b 1 0 + n) ≡ false
at_most_one true n is = ap (λ (k : ℕ). nat_le 2 (1 + k)) is
at_most_one false n is = ap (λ (k : ℕ). nat_le 2 (0 + k)) is

one_rp : (q : Question) → nat_le 2 (count_by begins_rp (map object_text (objects_in (question_message q)))) ≡ false
one_rp q =
    let rest = (bandwidth q.bandwidth ++ iro q.sequence) ++ [] in
    let first : Object = needed 2 (bodies.Rp 0 q.id) in
    let e = ends q.source q.target in
    ap (λ (k : ℕ). nat_le 2 k) (count_more (object_text first) (map object_text (e ∷ rest)))
    ∙ at_most_one (begins_rp (object_text first)) (count_by begins_rp (map object_text (e ∷ rest))) (other e rest refl ∙ bandwidth_none q.bandwidth q.sequence)

-- ---- the frame

stays_alone : (frame : List ℕ) (first kind : ℕ) (os : List (List ℕ)) → nat_le 2 (count_by begins_rp os) ≡ false → split_objects frame first kind (Ok os) ≡ frame ∷ []
stays_alone frame first kind os few = ap (λ (b : Bool). cond b (map (frame_with first kind) (groups_of (up_to_rp os))) (frame ∷ [])) few

pick : (b : Bool) (x y : List (List ℕ)) → x ≡ y → cond b x y ≡ y
pick true x y same = same
pick false x y same = refl

pub question_alone : (q : Question) → IsWritten (question_message q) → split_of (question_text q) ≡ question_text q ∷ []
question_alone q fits =
    let frame = question_text q in
    let os = objects_in (question_message q) in
    let n = length (objects_text os) + 4 in
    pick ((VERSION * 32 / 32 == VERSION) && ((256 * (n / 256 % 256) + n % 256 == length (objects_text os) + 4) && ((types.PCREQ == types.PCREQ) || (types.PCREQ == types.PCREP))))
    (split_objects frame (VERSION * 32) types.PCREQ (chunks_of (objects_text os))) (frame ∷ [])
    (ap (λ r. split_objects frame (VERSION * 32) types.PCREQ r) (chunks_are os fits.objects) ∙ stays_alone frame (VERSION * 32) types.PCREQ (map object_text os) (one_rp q))
