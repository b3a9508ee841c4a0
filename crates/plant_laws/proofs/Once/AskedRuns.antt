-- In every run, what an element asks is of the path request that it took in the same moment; and no outside peer is heard at the parent.
use Rattle.std.proofs.Common.{◌≡◌, ◌≢◌, ◌⊎◌, ◌≤◌, ℕ, zero, suc, Bool, true, false, cond, Some, is_some, List, [], ◌∷◌, inl, inr, sym, ◌∙◌, ap, subst, refl, arith}
use Rattle.std.specs.Prelude.{All}
use Rattle.std.proofs.lemmas.Bool.{eqb-true}
use Rattle.std.proofs.lemmas.List.Elements.{All-head, All-tail}
use Rattle.plant_model.specs.Types.{As, Peer, Outside, Inner, Asked, Message, Wanted, NetworkParts, ElementRow, PeerRow}
use Rattle.pcep_messages.specs.Spelling.{IsWritten}
use Rattle.pcep_messages.specs.declared.message.Message.TheVariants as messages
use Rattle.plant_model.specs.declared.output.Output.{Output}
use Rattle.plant_model.specs.declared.route.Route.{Route}
use Rattle.plant_text.specs.Names.{same_as, parent_as}
use Rattle.plant_model.specs.Wire.{Codec}
use Rattle.plant_model.specs.Writing.{asked_of, request_message}
use Rattle.plant_model.specs.Taking.{sequence_or}
use Rattle.plant_text.specs.Settings.{is_element, row_of, peer_row}
use Rattle.plant_model.specs.Settings.{place}
use Rattle.plant_model.specs.Deeds.{at_row}
use Rattle.plant_model.specs.State.{Loads, Pops, Takes, Says, Ups, Downs, Clears, Solves, Expires, Hands}
use Rattle.plant_model.specs.Plant.{Pin, Segment, Plant, PlantDeed, Entry, Run, deeds_of}
use Rattle.plant_model.specs.Laws.{IsCodec, IsNetwork, IsElement, IsSequence}
use Rattle.plant_laws.specs.Transcript.{Transcript, Within, outputs_at, SentIn}
use Rattle.plant_laws.specs.Sending.{AllSent}
use Rattle.plant_laws.specs.Reading.{IsRead, AreRead}
use Rattle.plant_laws.specs.About.{IsShort}
use Rattle.plant_laws.proofs.Runs.Queues.{same_as_is}
use Rattle.plant_laws.proofs.Runs.Rows.{In, in_of}
use Rattle.plant_laws.proofs.Once.Handing.{IsAsk}
use Rattle.plant_laws.proofs.Once.Handing as handing
use Rattle.plant_laws.proofs.Numbering.Sends.{Each-within}
use Rattle.plant_laws.proofs.WrittenForm.ReadBack.{run_single}
use Rattle.plant_laws.proofs.Numbering.Counted.{low_of, numbered_is, numbered_within, asks_within}
use Rattle.plant_laws.proofs.Numbering.NumberRuns.{run_last, toward_inner}
use Rattle.plant_laws.proofs.Runs.Reading.{outside_is_read}
use Rattle.plant_laws.proofs.Numbering.Onward.{GoesTo}
use Rattle.plant_laws.proofs.Least.Given.{IsAsked}
use Rattle.plant_laws.proofs.Reasons.Causes.{IsOf, AsksFor, HasCause, run_has, none_in}

pub flip_in : {A : Type 0} (x : A) (xs : List A) → In x xs → handing.In x xs
flip_in x [] h = absurd h
flip_in x (y ∷ ys) (inl e) = inl (sym e)
flip_in x (y ∷ ys) (inr h) = inr (flip_in x ys h)

in_cond : (b : Bool) (o : Output) (os : List Output) → In o (cond b os []) → (b ≡ true) × In o os
in_cond true o os h = (refl, h)
in_cond false o os h = absurd h

abbrev inner_of : As → Peer → As
inner_of a (Inner b) = b
inner_of a (Outside i) = a

-- where a request goes on, along the sequence of its own domain
module _ (d b : As) (routes : List Route) (w : Wanted) (own : (w.sequence ≡ []) ⊎ ((rest : List As) × (w.sequence ≡ d ∷ rest) × IsSequence d rest)) where
  goes : (rest : List As) → GoesTo Pin Segment routes w (Inner b) rest → ((more : List As) × (sequence_or d w.sequence ≡ d ∷ b ∷ more) × (rest ≡ b ∷ more)) ⊎ ((b ≡ parent_as) × (rest ≡ []))
  goes rest (inl up) = inr (ap (λ (p : Peer). inner_of b p) up.0, up.1)
  goes rest (inr on) = inl (on.2, along own, on.4 ∙ ap (λ (z : As). z ∷ on.2) (sym to))
    where
      to : b ≡ on.1
      to = toward_inner on.1 b routes on.3

      along : (w.sequence ≡ []) ⊎ ((rest : List As) × (w.sequence ≡ d ∷ rest) × IsSequence d rest) → sequence_or d w.sequence ≡ d ∷ b ∷ on.2
      along (inl none) = absurd (let out : [] ≡ on.0 ∷ on.1 ∷ on.2 = sym none ∙ on.5 in cc)
      along (inr s) =
          let both : d ∷ s.0 ≡ on.0 ∷ on.1 ∷ on.2 = sym s.1 ∙ on.5 in
          let tails : s.0 ≡ on.1 ∷ on.2 = cc in
          ap (λ (l : List As). sequence_or d l) s.1 ∙ ap (λ (l : List As). d ∷ l) tails ∙ ap (λ (z : As). d ∷ z ∷ on.2) (sym to)

module _ (c : Codec) (codec : IsCodec c) (n : NetworkParts) (es : List Entry) (s : Plant) (run : Run c n es s) (written : AllSent IsWritten (deeds_of c n es)) (short : IsShort (deeds_of c n es)) where
  abbrev now : Transcript
  now = deeds_of c n es

  module _ (d b : As) (asks : List Asked) (low : same_as d parent_as ≡ false) where
    abbrev Out : Output
    Out = record { to = Inner b; message = messages.PcReq asks }

    -- it is of the message that was taken
    is_of : (e : PlantDeed) → AsksFor c n e → In Out (outputs_at d e) → (peer : Peer) × (m : Message) × (os : List Output) × (e ≡ Takes d peer m os) × IsOf c n d m Out
    is_of (Takes at p m os) cause i =
        let x = in_cond (same_as at d) Out os i in
        let is = same_as_is at d x.0 in
        (p, m, os, ap (λ (z : As). Takes z p m os) is, subst (λ (z : As). IsOf c n z m Out) is (cause (ap (λ (z : As). same_as z parent_as) is ∙ low) Out (flip_in Out os x.1) tt))
    is_of (Says at o) cause i = absurd (alone (in_cond (same_as at d) Out (o ∷ []) i).1)
      where
        alone : In Out (o ∷ []) → ⊥
        alone (inl same) = cause (subst (λ (z : Output). IsAsk z.message) (sym same) tt)
        alone (inr none) = none
    is_of (Downs at p os) cause i =
        let x = in_cond (same_as at d) Out os i in
        absurd (none_in os (cause (ap (λ (z : As). same_as z parent_as) (same_as_is at d x.0) ∙ low)) Out (flip_in Out os x.1) tt)
    is_of (Solves at k os keys) cause i =
        let x = in_cond (same_as at d) Out os i in
        absurd (none_in os (cause (ap (λ (z : As). same_as z parent_as) (same_as_is at d x.0) ∙ low)) Out (flip_in Out os x.1) tt)
    is_of (Loads at g) cause i = absurd i
    is_of (Pops f t) cause i = absurd i
    is_of (Ups at p) cause i = absurd i
    is_of (Clears f t) cause i = absurd i
    is_of (Expires t) cause i = absurd i
    is_of (Hands i' bytes) cause i = absurd i

  pub asked_of_run : (m : Transcript) (d b : As) (asks : List Asked) → d ≢ parent_as → Within m now → SentIn m d (Inner b) (messages.PcReq asks) → IsAsked c n m d b asks
  asked_of_run [] d b asks real w sent = absurd sent
  asked_of_run (e ∷ older) d b asks real w sent =
      let low = low_of d real in
      let single = run_single c n codec es s run written in
      let numbers = (run_last c codec n es s run single short d low).1 in
      let x = is_of d b asks low e (Each-within (HasCause c n) now (run_has c n es s run single) e older w).0 (in_of (Out d b asks low) (outputs_at d e) sent) in
      let f = x.4 in
      let to : Inner b ≡ f.to = ap (λ (o : Output). o.to) f.sends in
      let message : messages.PcReq asks ≡ request_message f.id f.wanted f.wanted.target f.rest = ap (λ (o : Output). o.message) f.sends in
      let lists : asks ≡ asked_of f.id f.wanted f.wanted.target f.rest ∷ [] = cc in
      let sent' : SentIn (e ∷ older) d (Inner b) (request_message f.id f.wanted f.wanted.target f.rest) = subst (λ (m : Message). SentIn (e ∷ older) d (Inner b) m) message sent in
      let number = numbered_is c d b e older (numbered_within c d now numbers e older w) f.id f.wanted f.wanted.target f.rest sent' in
      let le = asks_within d b (e ∷ older) now w in
      let most = short d b in
      let at = number.0 in
      let last = number.1 in
      record {
        peer = x.0;
        taken = f.taken;
        outputs = x.2;
        before = older;
        is = ap (λ (z : PlantDeed). z ∷ older) (x.3 ∙ ap (λ (m : Message). Takes d x.0 m x.2) f.is);
        flags = f.flags;
        x = f.x;
        wanted = f.wanted;
        admits = f.admits;
        id = f.id;
        some = omega (arith, at);
        fits = omega (arith, last, le, most);
        sends = elim (goes d b (place n d).routes f.wanted (codec.onward.own f.taken d f.flags f.x f.wanted f.admits).2 f.rest (subst (λ (p : Peer). GoesTo Pin Segment (place n d).routes f.wanted p f.rest) (sym to) f.goes)) [
          | inl on ↦ inl (on.0, on.1, lists ∙ ap (λ (l : List As). asked_of f.id f.wanted f.wanted.target l ∷ []) on.2)
          | inr up ↦ inr (up.0, lists ∙ ap (λ (l : List As). asked_of f.id f.wanted f.wanted.target l ∷ []) up.1)
        ];
      }

-- ---- the parent has no outside peers

module _ (n : NetworkParts) (net : IsNetwork n) where
  pub is_real : (d : As) (rows : List ElementRow) → All IsElement rows → is_some (row_of d rows) ≡ true → 1 ≤ d.0
  is_real d [] all found = absurd (let clash : false ≡ true = found in cc)
  is_real d (r ∷ rows) all found = go (same_as r.own d) refl found (λ found'. is_real d rows (All-tail IsElement r rows all) found')
    where
      go : (b : Bool) → same_as r.own d ≡ b → is_some (cond b (Some r) (row_of d rows)) ≡ true → (is_some (row_of d rows) ≡ true → 1 ≤ d.0) → 1 ≤ d.0
      go true hit found' rec = let e = All-head IsElement r rows all in let real = e.real in let at = eqb-true r.own.0 d.0 hit in omega (arith, real, at)
      go false miss found' rec = rec found'

  at_element : (i : ℕ) (rs : List PeerRow) → All (λ (r : PeerRow). is_element n r.at ≡ true) rs → is_some (peer_row i rs) ≡ true → 1 ≤ (at_row (peer_row i rs)).0
  at_element i [] all found = absurd (let clash : false ≡ true = found in cc)
  at_element zero (r ∷ rs) all found = is_real r.at n.elements net.elements (All-head (λ (x : PeerRow). is_element n x.at ≡ true) r rs all)
  at_element (suc i) (r ∷ rs) all found = at_element i rs (All-tail (λ (x : PeerRow). is_element n x.at ≡ true) r rs all) found

  pub none_outside : (c : Codec) → IsCodec c → (es : List Entry) (s : Plant) → Run c n es s → (i : ℕ) (m : Message) (os : List Output) (older : Transcript) → Within (Takes parent_as (Outside i) m os ∷ older) (deeds_of c n es) → ⊥
  none_outside c codec es s run i m os older w =
      let r = read_within (deeds_of c n es) (outside_is_read c codec n es s run) w in
      let some = at_element i n.peers net.peers r.0 in
      let at = ap (λ (a : As). a.0) r.1 in
      omega (arith, some, at)
    where
      read_within : (ds : Transcript) → AreRead c n ds → Within (Takes parent_as (Outside i) m os ∷ older) ds → IsRead {S = Segment} c n (Takes parent_as (Outside i) m os)
      read_within [] all w' = absurd (let out : Takes parent_as (Outside i) m os ∷ older ≡ [] = w' in cc)
      read_within (e ∷ ds) all (inl is) = let heads : Takes parent_as (Outside i) m os ≡ e = cc in subst (λ (z : PlantDeed). IsRead c n z) (sym heads) all.0
      read_within (e ∷ ds) all (inr w') = read_within ds all.1 w'
