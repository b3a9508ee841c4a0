-- Messages in written form: those of sessions, notices, errors and replies.
use Rattle.std.proofs.Common.{if◌then◌else◌, ◌≡◌, ◌≤◌, ◌<◌, ◌^◌, ◌+◌, ℕ, Bool, true, false, ◌==◌, Option, Some, None, List, [], ◌∷◌, ◌++◌, length, refl, arith, sym, ap, subst, length-append}
use Rattle.std.specs.List.{AllByRecursion, flat_map}
use Rattle.std.specs.Int.{w32, to_be_bytes}
use Rattle.std.proofs.lemmas.List.{append-nil}
use Rattle.pcep_subobjects.specs.Hops as hops
use Rattle.plant_model.specs.Types.{Object, Answer, Path, Own, Offer}
use Rattle.pcep_objects.specs.declared.object.Body.TheVariants as bodies
use Rattle.pcep_objects.specs.Spelling as objects
use Rattle.pcep_objects.specs.Spelling.{IsWord, object_text}
use Rattle.pcep_messages.specs.declared.message.Message.TheVariants as messages
use Rattle.pcep_messages.specs.declared.message.Answer.TheVariants.{Paths, NoPath}
use Rattle.pcep_messages.specs.Spelling.{IsWritten, AreMeasured, answer_objects, metric_objects, path_objects, plain, objects_text, message_text}
use Rattle.pcep_session.specs.declared.actions.Own.TheVariants as own
use Rattle.plant_model.specs.Writing.{reply_message, error_message, busy}
use Rattle.plant_model.specs.Deeds.{own_message}
use Rattle.plant_model.specs.Laws.{AreWords, HasWords}

-- ---- sessions

-- the numbers of an offer are octets
abbrev pub OfferFits : Offer → Type 0
OfferFits o = (o.keepalive < 256) × (o.dead < 256) × (o.sid < 256)

abbrev pub OwnFits : Own → Type 0
OwnFits (own.Open offer) = OfferFits offer
OwnFits own.Keepalive = Unit {0}
OwnFits (own.Error kind value) = (kind < 256) × (value < 256)
OwnFits (own.Close why) = why < 256

pub own_written : (o : Own) → OwnFits o → IsWritten (own_message o)
own_written own.Keepalive fits = record { shape = tt; objects = tt; small = omega arith }
own_written (own.Close why) fits =
    record { shape = tt; objects = (record { class = omega arith; octets = fits; kind = omega arith; placed = (refl, refl); fits = tt; small = omega arith }, tt); small = omega arith }
own_written (own.Error kind value) fits = record {
  shape = (tt, (omega arith, tt));
  objects = (record { class = omega arith; octets = fits; kind = omega arith; placed = (refl, refl); fits = tt; small = omega arith }, tt);
  small = omega arith;
}
own_written (own.Open offer) fits = go offer.stateful
  where
    go : (b : Bool) → IsWritten (messages.Open (record { version = 1; offer = record offer { stateful = b } }))
    go true = record { shape = tt; objects = (record { class = omega arith; octets = fits; kind = omega arith; placed = (refl, refl); fits = omega arith; small = omega arith }, tt); small = omega arith }
    go false = record { shape = tt; objects = (record { class = omega arith; octets = fits; kind = omega arith; placed = (refl, refl); fits = omega arith; small = omega arith }, tt); small = omega arith }

-- ---- notices, errors and replies without paths

pub busy_written : (flags id : ℕ) → AreWords (flags, id) → IsWritten (busy flags id)
busy_written flags id words = record {
  shape = (tt, (omega arith, tt));
  objects = (
    record { class = omega arith; octets = tt; kind = omega arith; placed = (refl, refl); fits = words; small = omega arith },
    (record { class = omega arith; octets = (omega arith, omega arith); kind = omega arith; placed = (refl, refl); fits = tt; small = omega arith }, tt),
  );
  small = omega arith;
}

pub error_written : (rp : Option (ℕ × ℕ)) (kind value : ℕ) → HasWords rp → kind < 256 → value < 256 → IsWritten (error_message rp kind value)
error_written None kind value words p q = own_written (own.Error kind value) (p, q)
error_written (Some rp) kind value words p q = record {
  shape = (tt, (omega arith, tt));
  objects = (
    record { class = omega arith; octets = tt; kind = omega arith; placed = (refl, refl); fits = words; small = omega arith },
    (record { class = omega arith; octets = (p, q); kind = omega arith; placed = (refl, refl); fits = tt; small = omega arith }, tt),
  );
  small = omega arith;
}

vector_short : (n : ℕ) → length (objects.vector_text n) ≤ 8
vector_short n = go (n == 0)
  where
    go : (b : Bool) → length (if b then [] else 0 ∷ 1 ∷ 0 ∷ 4 ∷ to_be_bytes w32 n) ≤ 8
    go true = omega arith
    go false = omega arith

pub no_path_written : (flags id nature vector : ℕ) → AreWords (flags, id) → nature < 256 → vector < 2 ^ 32 → IsWritten (reply_message flags id (NoPath nature vector))
no_path_written flags id nature vector words octet fits =
    let short = vector_short vector in
    let none = length-append (objects.vector_text vector) [] in
    record {
      shape = (omega arith, (tt, tt));
      objects = (
        record { class = omega arith; octets = tt; kind = omega arith; placed = (refl, refl); fits = words; small = omega arith },
        (record { class = omega arith; octets = octet; kind = omega arith; placed = (refl, refl); fits = fits; small = omega (arith, short) }, tt),
      );
      small = omega (arith, short, none);
    }

-- ---- replies with other flags and another id

rp_of : ℕ → ℕ → Object
rp_of flags id = record { class = 2; kind = 1; must = true; body = bodies.Rp flags id }

rp_written : (flags id : ℕ) → AreWords (flags, id) → objects.IsWritten (rp_of flags id)
unfolding rp_of
rp_written flags id words = record { class = omega arith; octets = tt; kind = omega arith; placed = (refl, refl); fits = words; small = omega arith }

-- the text of a reply is that of its answer, and sixteen octets
reply_long : (flags id : ℕ) (a : Answer) → length (message_text (reply_message flags id a)) ≡ 16 + length (objects_text (answer_objects a ++ []))
reply_long flags id a = simp (length-append) (omega arith)

pub passed_written : (f x : ℕ) (flags id : ℕ) (a : Answer) → AreWords (flags, id) → IsWritten (reply_message f x a) → IsWritten (reply_message flags id a)
unfolding rp_of
passed_written f x flags id a words is = record {
  shape = is.shape;
  objects = (rp_written flags id words, is.objects.1);
  small = omega (arith, reply_long f x a, reply_long flags id a, is.small);
}

-- ---- replies with paths

-- a path in written form: its hops are, and its metric is a word
abbrev pub MetricFits : Option (ℕ × ℕ) → Type 0
MetricFits None = Unit {0}
MetricFits (Some m) = (m.0 < 256) × IsWord m.1

pub record PathFits (most : ℕ) (p : Path) : Type 0 where
  pub route : hops.AreWritten p.hops
  pub few : length (hops.hops_text p.hops) ≤ most
  pub metric : MetricFits p.metric

pub all_append : {X : Type 0} (Q : X → Type 0) (xs ys : List X) → AllByRecursion Q xs → AllByRecursion Q ys → AllByRecursion Q (xs ++ ys)
all_append Q [] ys h k = k
all_append Q (x ∷ xs) ys h k = (h.0, all_append Q xs ys h.1 k)

metric_written : (m : Option (ℕ × ℕ)) → MetricFits m → AllByRecursion objects.IsWritten (metric_objects m) × (length (objects_text (metric_objects m)) ≤ 12)
metric_written None fits = (tt, omega arith)
metric_written (Some m) fits = ((record { class = omega arith; octets = fits.0; kind = omega arith; placed = (refl, refl); fits = fits.1; small = omega arith }, tt), omega arith)

path_written : (most : ℕ) (p : Path) → most ≤ 65000 → PathFits most p → AllByRecursion objects.IsWritten (path_objects p) × (length (objects_text (path_objects p)) ≤ 16 + most)
path_written most p le fits =
    let m = metric_written p.metric fits.metric in (
      (record { class = omega arith; octets = tt; kind = omega arith; placed = (refl, refl); fits = fits.route; small = omega (arith, le, fits.few) }, m.0),
      omega (arith, fits.few, m.1, length-append (object_text (plain 7 (bodies.Ero p.hops))) (objects_text (metric_objects p.metric))),
    )

-- so much for each
abbrev pub room : {X : Type 0} → ℕ → List X → ℕ
room a [] = 0
room a (x ∷ xs) = a + room a xs

pub paths_long : (most : ℕ) (ps : List Path) → most ≤ 65000 → AllByRecursion (PathFits most) ps →
    AllByRecursion objects.IsWritten (flat_map path_objects ps) × (length (objects_text (flat_map path_objects ps)) ≤ room (16 + most) ps)
paths_long most [] le all = (tt, omega arith)
paths_long most (p ∷ ps) le all =
    let one = path_written most p le all.0 in
    let rest = paths_long most ps le all.1 in
    (all_append objects.IsWritten (path_objects p) (flat_map path_objects ps) one.0 rest.0, joined_long (path_objects p) (flat_map path_objects ps) (16 + most) (room (16 + most) ps) one.1 rest.1)
  where
    texts_append : (xs ys : List Object) → length (objects_text (xs ++ ys)) ≡ length (objects_text xs) + length (objects_text ys)
    texts_append [] ys = omega arith
    texts_append (x ∷ xs) ys = omega (arith, length-append (object_text x) (objects_text (xs ++ ys)), length-append (object_text x) (objects_text xs), texts_append xs ys)

    joined_long : (xs ys : List Object) (a n : ℕ) → length (objects_text xs) ≤ a → length (objects_text ys) ≤ n → length (objects_text (xs ++ ys)) ≤ a + n
    joined_long xs ys a n p q = omega (arith, texts_append xs ys, p, q)

pub paths_written : (flags id most : ℕ) (ps : List Path) → AreWords (flags, id) → AreMeasured (Paths ps) → most ≤ 65000 → AllByRecursion (PathFits most) ps → room (16 + most) ps ≤ 65500 →
    IsWritten (reply_message flags id (Paths ps))
unfolding rp_of
paths_written flags id most ps words measured le all short =
    let long = paths_long most ps le all in
    let same = append-nil (flat_map path_objects ps) in
    record {
      shape = (omega arith, (measured, tt));
      objects = (rp_written flags id words, subst (AllByRecursion objects.IsWritten) (sym same) long.0);
      small = omega (arith, reply_long flags id (Paths ps), ap (λ (os : List Object). length (objects_text os)) same, long.1, short);
    }
