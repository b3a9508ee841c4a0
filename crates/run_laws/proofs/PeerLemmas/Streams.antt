-- The texts of messages, one behind the other, are cut into these texts again.
use Rattle.std.proofs.Common.{◌≡◌, ℕ, ◌+◌, ◌-◌, ◌*◌, ◌/◌, ◌%◌, Bool, true, false, ◌==◌, List, [], ◌∷◌, ◌++◌, length, map, take, Result, Ok, Err, inl, refl, sym, ap, arith}
use Rattle.std.specs.Prelude.{if◌then◌else◌, nat_lt}
use Rattle.std.proofs.lemmas.Bool.{eqb-true}
use Rattle.std.specs.List.{AllByRecursion}
use Rattle.std.proofs.lemmas.List.{append-nil, length-append}
use Rattle.std.proofs.lemmas.List.Concat.{flat_map-cons}
use Rattle.dom_base.proofs.NumberLaws.{half_back}
use Rattle.plant_laws.specs.plant_model.Types.{Object, Message}
use Rattle.pcep_objects.specs.declared.object.ObjectFault.{ObjectFault}
use Rattle.pcep_objects.specs.declared.object.ObjectFault.TheVariants as faults
use Rattle.pcep_objects.specs.Bodies.{body_of}
use Rattle.pcep_objects.specs.Objects.{object_in, with_body}
use Rattle.pcep_objects.specs.Spelling.{body_text, flag, object_text}
use Rattle.pcep_objects.specs.Spelling as objects
use Rattle.pcep_objects.proofs.ObjectLaws as object_laws
use Rattle.pcep_messages.specs.Messages.{Reads}
use Rattle.pcep_messages.specs.Spelling.{IsWritten, content_text, message_text, objects_in, objects_text}
use Rattle.pcep_messages.proofs.MessageLaws as message_laws
use Rattle.pcep_framing.specs.Frames.{AreMessages, Framing, IsMessage, Splits, joined, length_field}
use Rattle.pcep_framing.proofs.FeedLemmas.{feed_is}
use Rattle.run_laws.specs.Received.{IsStreamOf}

-- an object that is read is whole words
aligned_if : (class second len : ℕ) (bytes : List ℕ) (x : Object × ℕ) → object_in class second len bytes ≡ Ok x → len % 4 ≡ 0
aligned_if class second len bytes x is = go (nat_lt (length bytes + 4) len) (nat_lt len 4) (len % 4 == 0) refl is
  where
    by : Bool → Bool → Bool → Result (Object × ℕ) (ℕ → ObjectFault)
    by a b d =
        if a then Err (λ _. faults.Short)
        else (if b then Err (λ _. faults.BadLength)
        else (if d then with_body class second len (body_of class (second / 16) (take (len - 4) bytes))
        else Err (λ _. faults.BadLength)))

    go : (a b d : Bool) → (len % 4 == 0) ≡ d → by a b d ≡ Ok x → len % 4 ≡ 0
    go true b d e h = cc
    go false true d e h = cc
    go false false true e h = eqb-true (len % 4) 0 e
    go false false false e h = cc

pub object_aligned : (o : Object) → objects.IsWritten o → length (object_text o) % 4 ≡ 0
object_aligned o fits =
    let n = length (body_text o.body) + 4 in
    let second = o.kind % 16 * 16 + flag o.must 2 in
    let back : 256 * (n / 256 % 256) + n % 256 ≡ n = half_back n [] (omega (arith, fits.small)) in
    let whole = aligned_if o.class second (256 * (n / 256 % 256) + n % 256) (body_text o.body ++ []) (o, length (object_text o)) (object_laws.written_is_read o [] fits) in
    omega (arith, back, whole)

objects_aligned : (os : List Object) → AllByRecursion objects.IsWritten os → length (objects_text os) % 4 ≡ 0
objects_aligned [] fits = refl
objects_aligned (o ∷ os) fits =
    let one = object_aligned o fits.0 in
    let others = objects_aligned os fits.1 in
    let all = ap length (flat_map-cons object_text o os) in
    omega (arith, one, others, all, length-append (object_text o) (objects_text os))

message_is : (m : Message) → IsWritten m → IsMessage (message_text m)
message_is m fits =
    let content = content_text m in
    let field : length_field (message_text m) ≡ length content + 4 = half_back (length content + 4) [] (omega (arith, fits.small)) in
    let whole : length content % 4 ≡ 0 = objects_aligned (objects_in m) fits.objects in
    record {
      head = record { whole = omega arith; version = refl; least = omega (arith, field); multiple = omega (arith, field, whole) };
      exact = omega (arith, field);
    }

messages_are : (ms : List Message) → AllByRecursion IsWritten ms → AreMessages (map message_text ms)
messages_are [] fits = tt
messages_are (m ∷ ms) fits = (message_is m fits.0, messages_are ms fits.1)

all_read : (ms : List Message) → AllByRecursion IsWritten ms → AllByRecursion (λ (m : Message). Reads (message_text m) m) ms
all_read [] fits = tt
all_read (m ∷ ms) fits = (message_laws.written_is_read m fits.0, all_read ms fits.1)

pub stream_of : (ms : List Message) → AllByRecursion IsWritten ms → IsStreamOf ms (joined (map message_text ms))
stream_of ms fits =
    let texts = map message_text ms in
    let start : Framing = record { held = []; bad = false } in
    let splits : Splits (joined texts) texts false [] = record { all = append-nil (joined texts); each = messages_are ms fits; stops = inl (omega arith) } in
    let same = feed_is start start (joined texts) texts splits in
    record { frames = sym same.0; whole = sym same.1; each = all_read ms fits }
