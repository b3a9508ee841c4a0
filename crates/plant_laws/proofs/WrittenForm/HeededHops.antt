-- The hops of what is heeded of an outside peer's reply: strict hops and path keys, no more than may be, with numbers of their types.
use Rattle.std.proofs.Common.{◌≡◌, ◌≤◌, ◌*◌, ℕ, Option, Some, None, List, [], ◌∷◌, length, map, inl, inr, sym, subst}
use Rattle.std.specs.List.{AllByRecursion}
use Rattle.plant_model.specs.Types.{As, Hop, Answer, Message, Path, Reply, NetworkParts, Outside}
use Rattle.pcep_subobjects.specs.Subobjects.{AreOctets}
use Rattle.pcep_messages.specs.declared.message.Answer.TheVariants.{Paths, NoPath}
use Rattle.pcep_messages.specs.declared.message.Message.TheVariants as messages
use Rattle.outside_part.specs.declared.reported.Reported.{Reported}
use Rattle.outside_part.specs.Ranges.{IsInRange, AreInRange, EachPath}
use Rattle.outside_part.specs.Rows.{IsPlain}
use Rattle.outside_part.specs.Sifting.{rows_of, path_by, sifted_answer}
use Rattle.outside_part.proofs.SiftedAgain.{all_rows}
use Rattle.plant_model.specs.declared.output.Output.{Output}
use Rattle.plant_model.specs.Wire.{Bytes, Codec}
use Rattle.plant_model.specs.Laws.{IsCodec}
use Rattle.plant_model.specs.Outside.{heeded_by, heeded_in}
use Rattle.plant_model.specs.State.{Takes}
use Rattle.plant_model.specs.Plant.{PlantDeed}
use Rattle.plant_laws.specs.Transcript.{Transcript, Within}
use Rattle.plant_laws.specs.Reading.{IsRead, AreRead}

-- plain hops, no more than may be
abbrev pub AreFewPlain : ℕ → List Hop → Type 0
AreFewPlain most hs = AllByRecursion IsPlain hs × (length hs ≤ most)

all_of_any : {X : Type 0} (xs : List X) → AllByRecursion (λ _. Unit {0}) xs
all_of_any [] = tt
all_of_any (x ∷ xs) = (tt, all_of_any xs)

module _ (units : ℕ → Option ℕ) (word : ℕ → ℕ) (most : ℕ) where
  mapped : (P : List Hop → Type 0) (rows : List Reported) → AllByRecursion (λ (r : Reported). P r.hops) rows → AllByRecursion (λ (p : Path). P p.hops) (map (path_by word) rows)
  mapped P [] all = tt
  mapped P (r ∷ rows) all = (all.0, mapped P rows all.1)

  pub sifted_plain : (a : Answer) → EachPath (λ (p : Path). AreFewPlain most p.hops) (sifted_answer units word most a)
  sifted_plain (Paths told) =
      mapped (AreFewPlain most) (rows_of units most told)
      (all_rows units most (λ (r : Reported). AreFewPlain most r.hops) (λ _. Unit {0}) (λ p r _ k. subst (AreFewPlain most) (sym k.hops) (k.plain, k.few)) told (all_of_any told))
  sifted_plain (NoPath nature vector) = tt

  sifted_range : (a : Answer) → AreInRange a → AreInRange (sifted_answer units word most a)
  sifted_range (Paths told) range =
      mapped (λ (hs : List Hop). AllByRecursion IsInRange hs) (rows_of units most told)
      (all_rows units most (λ (r : Reported). AllByRecursion IsInRange r.hops) (λ (p : Path). AllByRecursion IsInRange p.hops) (λ p r q k. subst (λ (hs : List Hop). AllByRecursion IsInRange hs) (sym k.hops) q) told range)
  sifted_range (NoPath nature vector) range = tt

-- ---- as they were read

heeded_range : (c : Codec) (o : Option ℕ) (r : Reply) → AreInRange r.answer → AreInRange (heeded_by c o r).answer
heeded_range c None r range = range
heeded_range c (Some domains) r range = sifted_range c.units c.word (3 * domains) r.answer range

all_heeded : (c : Codec) (sent : ℕ → Option ℕ) (rs : List Reply) → AllByRecursion (λ (r : Reply). AreInRange r.answer) rs → AllByRecursion (λ (r : Reply). AreInRange r.answer) (map (λ (r : Reply). heeded_by c (sent r.id) r) rs)
all_heeded c sent [] all = tt
all_heeded c sent (r ∷ rs) all = (heeded_range c (sent r.id) r all.0, all_heeded c sent rs all.1)

read_range : (c : Codec) → IsCodec c → (bytes : Bytes) → AreOctets bytes → (raw : Message) → c.read bytes ≡ Some raw → (sent : ℕ → Option ℕ) (r : Reply) → messages.PcRep (r ∷ []) ≡ heeded_in c sent raw → AreInRange r.answer
read_range c codec bytes octets (messages.PcRep replies) read sent r is =
    let same : r ∷ [] ≡ map (λ (x : Reply). heeded_by c (sent x.id) x) replies = cc in
    (subst (λ (l : List Reply). AllByRecursion (λ (x : Reply). AreInRange x.answer) l) (sym same) (all_heeded c sent replies (codec.numbers.hops bytes replies octets read))).0
read_range c codec bytes octets (messages.PcReq asks) read sent r is = absurd (let out : messages.PcRep (r ∷ []) ≡ messages.PcReq asks = is in cc)
read_range c codec bytes octets (messages.PcNtf notices) read sent r is = absurd (let out : messages.PcRep (r ∷ []) ≡ messages.PcNtf notices = is in cc)
read_range c codec bytes octets (messages.PcErr reports) read sent r is = absurd (let out : messages.PcRep (r ∷ []) ≡ messages.PcErr reports = is in cc)
read_range c codec bytes octets (messages.Open body) read sent r is = absurd (let out : messages.PcRep (r ∷ []) ≡ messages.Open body = is in cc)
read_range c codec bytes octets messages.Keepalive read sent r is = absurd (let out : messages.PcRep (r ∷ []) ≡ messages.Keepalive = is in cc)
read_range c codec bytes octets (messages.Close why) read sent r is = absurd (let out : messages.PcRep (r ∷ []) ≡ messages.Close why = is in cc)
read_range c codec bytes octets (messages.Other kind) read sent r is = absurd (let out : messages.PcRep (r ∷ []) ≡ messages.Other kind = is in cc)

pub taken_range : (c : Codec) → IsCodec c → (n : NetworkParts) (ds : Transcript) → AreRead c n ds → (d : As) (i : ℕ) (r : Reply) (os : List Output) (older : Transcript) → Within (Takes d (Outside i) (messages.PcRep (r ∷ [])) os ∷ older) ds →
    AreInRange r.answer
taken_range c codec n [] all d i r os older w = absurd (let out : Takes d (Outside i) (messages.PcRep (r ∷ [])) os ∷ older ≡ [] = w in cc)
taken_range c codec n (e ∷ ds) all d i r os older (inl is) =
    let heads : Takes d (Outside i) (messages.PcRep (r ∷ [])) os ≡ e = cc in
    let x = subst (λ (z : PlantDeed). IsRead c n z) (sym heads) all.0 in
    read_range c codec x.2 x.3 x.4 x.5 x.6 r x.7
taken_range c codec n (e ∷ ds) all d i r os older (inr w) = taken_range c codec n ds all.1 d i r os older w
