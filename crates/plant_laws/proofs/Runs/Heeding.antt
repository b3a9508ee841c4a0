-- What is heeded of a message: the same, but for what its replies answer.
use Rattle.std.proofs.Common.{◌≡◌, ◌∙◌, ℕ, Option, Some, None, List, [], ◌∷◌, length, drop, map, ap, refl, arith}
use Rattle.std.specs.Option.{option_map}
use mathlib.Core.Path.{fun_ext}
use Rattle.plant_model.specs.Types.{Peer, Asked, Message, Reply}
use Rattle.std.specs.List.{AllByRecursion}
use Rattle.std.proofs.lemmas.List.{length-map}
use Rattle.pcep_messages.specs.declared.message.Message.TheVariants as messages
use Rattle.plant_model.specs.Wire.{Codec}
use Rattle.plant_model.specs.Laws.{AreWords}
use Rattle.plant_model.specs.Element.{Row, sent_through, waiting}
use Rattle.plant_model.specs.Outside.{heeded, heeded_by, heeded_in}
use Rattle.plant_laws.proofs.Numbering.Sends.{IsAlone}
use Rattle.plant_laws.proofs.Blind.Strip.{bare_rows, bare_found, bare_waiting}
use Rattle.plant_laws.proofs.Once.Takes.{IsSingle}

module _ (c : Codec) (sent : ℕ → Option ℕ) where
  pub heeded_alone : (m : Message) → IsAlone m → IsAlone (heeded_in c sent m)
  heeded_alone (messages.PcReq asks) one = one
  heeded_alone (messages.PcRep replies) one = omega (arith, one, length-map replies (λ (r : Reply). heeded_by c (sent r.id) r))
  heeded_alone (messages.PcNtf notices) one = tt
  heeded_alone (messages.PcErr reports) one = tt
  heeded_alone (messages.Open body) one = tt
  heeded_alone messages.Keepalive one = tt
  heeded_alone (messages.Close why) one = tt
  heeded_alone (messages.Other kind) one = tt

  pub heeded_single : (m : Message) → IsSingle m → IsSingle (heeded_in c sent m)
  heeded_single (messages.PcReq asks) one = one
  heeded_single (messages.PcRep replies) one = tt
  heeded_single (messages.PcNtf notices) one = tt
  heeded_single (messages.PcErr reports) one = tt
  heeded_single (messages.Open body) one = tt
  heeded_single messages.Keepalive one = tt
  heeded_single (messages.Close why) one = tt
  heeded_single (messages.Other kind) one = tt

  pub single_back : (m : Message) → IsSingle (heeded_in c sent m) → IsSingle m
  single_back (messages.PcReq asks) one = one
  single_back (messages.PcRep replies) one = tt
  single_back (messages.PcNtf notices) one = tt
  single_back (messages.PcErr reports) one = tt
  single_back (messages.Open body) one = tt
  single_back messages.Keepalive one = tt
  single_back (messages.Close why) one = tt
  single_back (messages.Other kind) one = tt

  -- a request is the one that was read
  pub asks_read : (m : Message) (asks : List Asked) → heeded_in c sent m ≡ messages.PcReq asks → m ≡ messages.PcReq asks
  asks_read (messages.PcReq asks') asks is = is
  asks_read (messages.PcRep replies) asks is = absurd (let clash : messages.PcRep (map (λ (r : Reply). heeded_by c (sent r.id) r) replies) ≡ messages.PcReq asks = is in cc)
  asks_read (messages.PcNtf notices) asks is = is
  asks_read (messages.PcErr reports) asks is = is
  asks_read (messages.Open body) asks is = is
  asks_read messages.Keepalive asks is = is
  asks_read (messages.Close why) asks is = is
  asks_read (messages.Other kind) asks is = is

  -- flags and ids stay
  abbrev pub HaveWords : List Reply → Type 0
  HaveWords rs = AllByRecursion (λ (r : Reply). AreWords (r.flags, r.id)) rs

  pub heeded_words : (rs : List Reply) → HaveWords rs → HaveWords (map (λ (r : Reply). heeded_by c (sent r.id) r) rs)
  heeded_words [] all = tt
  heeded_words (r ∷ rs) all = (go (sent r.id), heeded_words rs all.1)
    where
      go : (o : Option ℕ) → AreWords ((heeded_by c o r).flags, (heeded_by c o r).id)
      go None = all.0
      go (Some domains) = all.0

-- An element that knows of no pins heeds the same.
module _ {P : Type 0} {Q : Type 0} (view : P → Q) where
  abbrev behind : {X : Type 0} → Row X → ℕ
  behind h = length (drop 1 h.1.item.sequence)

  same_found : (o : Option (Row P)) → option_map (behind {X = Q}) (bare_found view o) ≡ option_map (behind {X = P}) o
  same_found None = refl
  same_found (Some h) = refl

  same_sent : (p : Peer) (id : ℕ) (rows : List (Row P)) → sent_through p id (bare_rows view rows) ≡ sent_through p id rows
  same_sent p id rows = ap (λ (o : Option (Row Q)). option_map (behind {X = Q}) o) (bare_waiting P (Unit {0}) Q view p id rows) ∙ same_found (waiting p id rows)

  pub heeded_bare : (c : Codec) (p : Peer) (rows : List (Row P)) (m : Message) → heeded c p (bare_rows view rows) m ≡ heeded c p rows m
  heeded_bare c p rows m = ap (λ (sent : ℕ → Option ℕ). heeded_in c sent m) (fun_ext (λ id. same_sent p id rows))
