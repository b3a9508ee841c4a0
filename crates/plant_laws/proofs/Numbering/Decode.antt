-- The id and the sequence of a request, read off its message; and ids that rise along a queue.
use Rattle.std.proofs.Common.{◌≡◌, ◌≤◌, ◌<◌, ℕ, Bool, true, false, cond, map, List, [], ◌∷◌, ◌++◌, Option, Some, None, sym, ◌∙◌, ap, subst, inl, inr, refl, arith}
use Rattle.plant_model.specs.Types.{As, Addr, Exclusion, Hop, Object, Body, Message, Asked, Wanted, Inner}
use Rattle.pcep_subobjects.specs.declared.hop.Hop.TheVariants as hops
use Rattle.pcep_objects.specs.declared.object.Body.TheVariants as bodies
use Rattle.pcep_messages.specs.declared.message.Message.TheVariants as messages
use Rattle.plant_model.specs.declared.output.Output.{Output}
use Rattle.request_table.specs.Pending.{same_peer}
use Rattle.plant_text.specs.Names.{parent_as}
use Rattle.pcep_messages.specs.Requests.{type_of_metric}
use Rattle.plant_model.specs.Writing.{as_hop, lspa, bandwidth, bound, iro, xro, needed, request_message}
use Rattle.plant_laws.specs.Transcript.{put_into}
use Rattle.plant_laws.proofs.Once.Handing.{In, IsAsk}
use Rattle.plant_laws.proofs.Numbering.Sends.{NoneAsks}

abbrev pub body_id : Body → Option ℕ
body_id (bodies.Rp flags id) = Some id
body_id b = None

abbrev pub objects_id : List Object → Option ℕ
objects_id [] = None
objects_id (o ∷ os) = body_id o.body

abbrev pub asked_id : List Asked → Option ℕ
asked_id [] = None
asked_id (a ∷ rest) = objects_id a.objects

abbrev pub request_id : Message → Option ℕ
request_id (messages.PcReq asks) = asked_id asks
request_id (messages.PcRep replies) = None
request_id (messages.PcNtf notices) = None
request_id (messages.PcErr reports) = None
request_id (messages.Open body) = None
request_id messages.Keepalive = None
request_id (messages.Close why) = None
request_id (messages.Other kind) = None

pub id_of : (id : ℕ) (w : Wanted) (t : Addr) (l : List As) → request_id (request_message id w t l) ≡ Some id
id_of id w t l = refl

pub id_none : (m : Message) → (IsAsk m → ⊥) → request_id m ≡ None
id_none (messages.PcReq asks) none = absurd (none tt)
id_none (messages.PcRep replies) none = refl
id_none (messages.PcNtf notices) none = refl
id_none (messages.PcErr reports) none = refl
id_none (messages.Open body) none = refl
id_none messages.Keepalive none = refl
id_none (messages.Close why) none = refl
id_none (messages.Other kind) none = refl

-- the sequence
abbrev pub as_of : Hop → As
as_of (hops.AsNumber loose a) = a
as_of h = parent_as

abbrev pub along_body : Body → List As → List As
along_body (bodies.Iro hs) l = map as_of hs
along_body b l = l

abbrev pub sequence_in : List Object → List As
sequence_in [] = []
sequence_in (o ∷ os) = along_body o.body (sequence_in os)

abbrev pub asked_sequence : List Asked → List As
asked_sequence [] = []
asked_sequence (a ∷ rest) = sequence_in a.objects

abbrev pub request_sequence : Message → List As
request_sequence (messages.PcReq asks) = asked_sequence asks
request_sequence (messages.PcRep replies) = []
request_sequence (messages.PcNtf notices) = []
request_sequence (messages.PcErr reports) = []
request_sequence (messages.Open body) = []
request_sequence messages.Keepalive = []
request_sequence (messages.Close why) = []
request_sequence (messages.Other kind) = []

mapped : (l : List As) → map as_of (map as_hop l) ≡ l
mapped [] = refl
mapped (a ∷ l) = ap (λ (xs : List As). a ∷ xs) (mapped l)

in_iro : (l : List As) (xs : List Exclusion) → sequence_in (iro l ++ xro xs) ≡ l
in_iro [] [] = refl
in_iro [] (x ∷ xs) = refl
in_iro (a ∷ l) xs = mapped (a ∷ l)

pub sequence_of : (id : ℕ) (w : Wanted) (t : Addr) (l : List As) → request_sequence (request_message id w t l) ≡ l
sequence_of id w t l = first w.masks w.bandwidth_word
  where
    last : (o : Option ℕ) → sequence_in (bound w.query.metric o ++ iro l ++ xro w.query.exclusions) ≡ l
    last None = in_iro l w.query.exclusions
    last (Some word) = in_iro l w.query.exclusions

    middle : (o : Option ℕ) → sequence_in (bandwidth o ++ needed 6 (bodies.Metric false true (type_of_metric w.query.metric) 0) ∷ [] ++ bound w.query.metric w.bound_word ++ iro l ++ xro w.query.exclusions) ≡ l
    middle None = last w.bound_word
    middle (Some word) = last w.bound_word

    first : (o : Option (ℕ × ℕ × ℕ)) (b : Option ℕ) →
        sequence_in (lspa o ++ bandwidth b ++ needed 6 (bodies.Metric false true (type_of_metric w.query.metric) 0) ∷ [] ++ bound w.query.metric w.bound_word ++ iro l ++ xro w.query.exclusions) ≡ l
    first None b = middle b
    first (Some m) b = middle b

-- two spellings of one request have one id and one sequence
pub same_request : (id id' : ℕ) (w w' : Wanted) (t t' : Addr) (l l' : List As) → request_message id w t l ≡ request_message id' w' t' l' → (id ≡ id') × (l ≡ l')
same_request id id' w w' t t' l l' is = (
  some (sym (id_of id w t l) ∙ ap request_id is ∙ id_of id' w' t' l'),
  sym (sequence_of id w t l) ∙ ap request_sequence is ∙ sequence_of id' w' t' l',
)
  where
    some : ◌≡◌ {A = Option ℕ} (Some id) (Some id') → id ≡ id'
    some e = cc

-- ---- ids that rise

abbrev pub Above : Option ℕ → ℕ → (ℕ → Type 0) → Type 0
Above None low f = f low
Above (Some y) low f = (low < y) × f y

-- the ids of the requests among the messages rise, above one number and up to another
abbrev pub Rising : List Message → ℕ → ℕ → Type 0
Rising [] low high = low ≤ high
Rising (m ∷ ms) low high = Above (request_id m) low (λ y. Rising ms y high)

pub rising_le : (ms : List Message) (low high : ℕ) → Rising ms low high → low ≤ high
rising_le [] low high h = h
rising_le (m ∷ ms) low high h = go (request_id m) (λ l r. rising_le ms l high r) h
  where
    go : (o : Option ℕ) → ((l : ℕ) → Rising ms l high → l ≤ high) → Above o low (λ y. Rising ms y high) → low ≤ high
    go None rec h = rec low h
    go (Some y) rec h = let more = rec y h.1 in omega (arith, h.0, more)

rising_lower : (ys : List Message) (low middle high : ℕ) → low ≤ middle → Rising ys middle high → Rising ys low high
rising_lower [] low middle high le g = omega (arith, le, g)
rising_lower (y ∷ ys) low middle high le g = go (request_id y) (λ r. rising_lower ys low middle high le r) g
  where
    go : (o : Option ℕ) → (Rising ys middle high → Rising ys low high) → Above o middle (λ z. Rising ys z high) → Above o low (λ z. Rising ys z high)
    go None rec h = rec h
    go (Some z) rec h = (omega (arith, le, h.0), h.1)

pub rising_append : (xs ys : List Message) (low middle high : ℕ) → Rising xs low middle → Rising ys middle high → Rising (xs ++ ys) low high
rising_append [] ys low middle high h g = rising_lower ys low middle high h g
rising_append (x ∷ xs) ys low middle high h g = go (request_id x) (λ l r. rising_append xs ys l middle high r g) h
  where
    go : (o : Option ℕ) → ((l : ℕ) → Rising xs l middle → Rising (xs ++ ys) l high) → Above o low (λ y. Rising xs y middle) → Above o low (λ y. Rising (xs ++ ys) y high)
    go None rec h = rec low h
    go (Some y) rec h = (h.0, rec y h.1)

-- the first is taken
pub rising_tail : (m : Message) (ms : List Message) (low high : ℕ) → Rising (m ∷ ms) low high → (low' : ℕ) × (low ≤ low') × Rising ms low' high × ((y : ℕ) → request_id m ≡ Some y → (low < y) × (y ≤ low'))
rising_tail m ms low high h = go (request_id m) h
  where
    go : (o : Option ℕ) → Above o low (λ y. Rising ms y high) → (low' : ℕ) × (low ≤ low') × Rising ms low' high × ((y : ℕ) → o ≡ Some y → (low < y) × (y ≤ low'))
    go None h = (low, omega arith, h, λ y is. (let clash : ◌≡◌ {A = Option ℕ} None (Some y) = is in cc))
    go (Some z) h = (z, omega (arith, h.0), h.1, λ y is. some y is)
      where
        some : (y : ℕ) → ◌≡◌ {A = Option ℕ} (Some z) (Some y) → (low < y) × (y ≤ z)
        some y is = let same : z ≡ y = cc in (omega (arith, same, h.0), omega (arith, same))

-- one of them
pub rising_in : (ms : List Message) (low high : ℕ) (m : Message) (y : ℕ) → Rising ms low high → In m ms → request_id m ≡ Some y → y ≤ high
rising_in [] low high m y h in' is = absurd in'
rising_in (x ∷ ms) low high m y h (inr rest) is = go (request_id x) (λ l r. rising_in ms l high m y r rest is) h
  where
    go : (o : Option ℕ) → ((l : ℕ) → Rising ms l high → y ≤ high) → Above o low (λ z. Rising ms z high) → y ≤ high
    go None rec h = rec low h
    go (Some z) rec h = rec z h.1
rising_in (x ∷ ms) low high m y h (inl same) is = go (request_id x) (sym (ap request_id same) ∙ is) h
  where
    go : (o : Option ℕ) → o ≡ Some y → Above o low (λ z. Rising ms z high) → y ≤ high
    go None e h = (let clash : ◌≡◌ {A = Option ℕ} None (Some y) = e in cc)
    go (Some z) e h = let is' : z ≡ y = cc in let more = rising_le ms z high h.1 in omega (arith, is', more)

-- nothing asks
pub rising_none : (b : As) (os : List Output) (low : ℕ) → NoneAsks os → Rising (put_into b os) low low
rising_none b [] low none = omega arith
rising_none b (o ∷ os) low none = go (same_peer o.to (Inner b)) (rising_none b os low none.1)
  where
    go : (x : Bool) → Rising (put_into b os) low low → Rising (cond x (o.message ∷ put_into b os) (put_into b os)) low low
    go true rec = subst (λ (i : Option ℕ). Above i low (λ y. Rising (put_into b os) y low)) (sym (id_none o.message none.0)) rec
    go false rec = rec
