-- A request that an element has from another one is that which the other sent on, of a request that it took.
use Rattle.std.proofs.Common.{◌≡◌, ◌≢◌, ◌⊎◌, ◌≤◌, ◌<◌, ◌^◌, ℕ, suc, Bool, true, false, List, [], ◌∷◌, sym, ◌∙◌, ap, subst, inl, inr, refl, arith}
use Rattle.std.specs.Prelude.{Contains}
use Rattle.std.proofs.lemmas.List.Elements.{All-head, All-tail}
use Rattle.plant_model.specs.Types.{Addr, As, Asked, Message, Request, Wanted, Wish, NetworkParts, Inner}
use Rattle.pcep_messages.specs.declared.message.Message.TheVariants as messages
use Rattle.pcep_messages.specs.declared.message.Wish.TheVariants.{Path, Expand}
use Rattle.walk_laws.specs.Crossing.{query_in}
use Rattle.plant_model.specs.declared.output.Output.{Output}
use Rattle.plant_text.specs.Names.{parent_as}
use Rattle.plant_model.specs.Wire.{Codec, Checked, Admitted, Wrong}
use Rattle.plant_model.specs.Writing.{asked_of, vspt_flag}
use Rattle.plant_model.specs.Taking.{sequence_or}
use Rattle.plant_model.specs.State.{Pops, Takes}
use Rattle.plant_model.specs.Plant.{PlantDeed}
use Rattle.plant_model.specs.Laws.{IsCodec, IsSequence, Admits}
use Rattle.plant_laws.specs.Transcript.{Transcript, Within, Standing, SentIn, Handed, Delivered}
use Rattle.border_costs.proofs.Members.{contains_head}
use Rattle.plant_laws.proofs.Runs.Moments.{within_here, within_trans, standing_put}
use Rattle.plant_laws.proofs.Least.Given.{Premises, IsAsked}

pub within_tail : (e : PlantDeed) (older now : Transcript) → Within (e ∷ older) now → Within older now
within_tail e older now h = within_trans older (e ∷ older) now (inr (within_here older)) h

-- parts of a request
abbrev admitted_in : Request → Checked → Request
admitted_in r (Admitted x) = x
admitted_in r (Wrong rp kind value) = r

abbrev wanted_in : Wanted → Wish → Wanted
wanted_in w (Path v) = v
wanted_in w (Expand key pce) = w

abbrev is_path : Wish → Bool
is_path (Path v) = true
is_path (Expand key pce) = false

pub same_request : (r s : Request) → Admitted r ≡ Admitted s → r ≡ s
same_request r s same = ap (admitted_in r) same

pub same_wanted : (v w : Wanted) → Path v ≡ Path w → v ≡ w
same_wanted v w same = ap (wanted_in v) same

pub no_expansion : (w : Wanted) (key : ℕ) (pce : Addr) → Path w ≡ Expand key pce → ⊥
no_expansion w key pce same = differ (ap is_path same)
  where
    differ : true ≡ false → ⊥
    differ e = cc

abbrev asks_in : List Asked → Message → List Asked
asks_in l (messages.PcReq asks) = asks
asks_in l (messages.Open body) = l
asks_in l messages.Keepalive = l
asks_in l (messages.PcRep replies) = l
asks_in l (messages.PcNtf notices) = l
asks_in l (messages.PcErr reports) = l
asks_in l (messages.Close why) = l
asks_in l (messages.Other kind) = l

abbrev first_in : {X : Type 0} → X → List X → X
first_in x [] = x
first_in x (y ∷ ys) = y

abbrev rest_in : {X : Type 0} → List X → List X
rest_in [] = []
rest_in (y ∷ ys) = ys

pub same_first : {X : Type 0} (x y : X) (xs ys : List X) → x ∷ xs ≡ y ∷ ys → x ≡ y
same_first x y xs ys same = ap (first_in x) same

pub same_rest : {X : Type 0} (x y : X) (xs ys : List X) → x ∷ xs ≡ y ∷ ys → xs ≡ ys
same_rest x y xs ys same = ap rest_in same

pub same_asked : (a b : Asked) → messages.PcReq (a ∷ []) ≡ messages.PcReq (b ∷ []) → a ≡ b
same_asked a b same = same_first a b [] [] (ap (asks_in (a ∷ [])) same)

pub admits_path : (c : Codec) (a : Asked) (d : As) (r : Request) (w : Wanted) → c.check a d ≡ Admitted r → r.wish ≡ Path w → Admits c a d r.flags r.id w
admits_path c a d r w is wish = is ∙ ap (λ (v : Wish). let o : Checked = Admitted (record { flags = r.flags; id = r.id; wish = v }) in o) wish

-- sequences
pub later_sequence : (d b : As) (rest : List As) → IsSequence d (b ∷ rest) → IsSequence b rest
later_sequence d b rest s = record {
  few = (let f = s.few in omega (arith, f));
  differ = λ i j x less within. s.differ (suc i) (suc j) x (omega (arith, less)) (omega (arith, within));
  real = All-tail (λ (a : As). 1 ≤ a.0) d (b ∷ rest) s.real;
}

pub real_next : (d b : As) (rest : List As) → IsSequence d (b ∷ rest) → b ≢ parent_as
real_next d b rest s same =
    let one : 1 ≤ b.0 = All-head (λ (a : As). 1 ≤ a.0) b rest (All-tail (λ (a : As). 1 ≤ a.0) d (b ∷ rest) s.real) in
    let zero_as : b.0 ≡ 0 = ap (λ (a : As). a.0) same in
    omega (arith, one, zero_as)

-- a sequence that was admitted begins with the own domain
pub own_sequence : (d : As) (sequence : List As) → (sequence ≡ []) ⊎ ((rest : List As) × (sequence ≡ d ∷ rest) × IsSequence d rest) →
    (sequence_or d sequence ≡ d ∷ []) ⊎ ((b : As) × (rest : List As) × (sequence_or d sequence ≡ d ∷ b ∷ rest) × IsSequence d (b ∷ rest))
own_sequence d sequence (inl none) = inl (ap (sequence_or d) none)
own_sequence d sequence (inr some) = go some.0 some.1 some.2
  where
    go : (rest : List As) → sequence ≡ d ∷ rest → IsSequence d rest → (sequence_or d sequence ≡ d ∷ []) ⊎ ((b : As) × (rest : List As) × (sequence_or d sequence ≡ d ∷ b ∷ rest) × IsSequence d (b ∷ rest))
    go [] is s = inl (ap (sequence_or d) is)
    go (b ∷ rest) is s = inr (b, rest, ap (sequence_or d) is, s)

pub along_sequence : (d b : As) (rest sequence : List As) → (sequence ≡ []) ⊎ ((rest : List As) × (sequence ≡ d ∷ rest) × IsSequence d rest) → sequence_or d sequence ≡ d ∷ b ∷ rest → IsSequence d (b ∷ rest)
along_sequence d b rest sequence own is = elim (own_sequence d sequence own) [
  | inl short ↦ absurd (differ (same_rest d d [] (b ∷ rest) (sym short ∙ is)))
  | inr long ↦ subst (λ (l : List As). IsSequence d l) (same_rest d d (long.0 ∷ long.1) (b ∷ rest) (sym long.2 ∙ is)) long.3
]
  where
    differ : ◌≡◌ {A = List As} [] (b ∷ rest) → ⊥
    differ e = cc

-- what the next element is asked
abbrev pub on_wanted : Wanted → As → List As → Wanted
on_wanted w b rest = record w { target = w.target; query = query_in w.query b; sequence = b ∷ rest }

module _ (c : Codec) (codec : IsCodec c) (n : NetworkParts) (now : Transcript) (given : Premises c n now) where
  pub record IsFrom (d b : As) (a : Asked) (at : Transcript) : Type 0 where
    pub put : Transcript
    pub within : Within put now
    pub handed : Handed d b put at
    pub sent : SentIn put d (Inner b) (messages.PcReq (a ∷ []))
    pub asked : IsAsked c n put d b (a ∷ [])

  pub from_inner : (d b : As) → d ≢ parent_as → (a : Asked) (os : List Output) (older : Transcript) → Within (Takes b (Inner d) (messages.PcReq (a ∷ [])) os ∷ older) now →
      IsFrom d b a (Takes b (Inner d) (messages.PcReq (a ∷ [])) os ∷ older)
  from_inner d b real a os older within =
      let deed : PlantDeed = Takes b (Inner d) (messages.PcReq (a ∷ [])) os in
      let carried = given.carried_requests b d (a ∷ []) os older within in
      let stood : Standing = record { message = messages.PcReq (a ∷ []); put = carried.put } in
      let was = standing_put d b carried.before stood (subst (λ (l : List Standing). Contains l stood) (sym carried.stood) (contains_head stood carried.rest)) in
      let before_within : Within carried.before now = within_tail (Pops d b) carried.before now (subst (λ (o : Transcript). Within o now) carried.is (within_tail deed older now within)) in
      let put_within = within_trans carried.put carried.before now was.within before_within in
      record {
        put = carried.put;
        within = put_within;
        handed = subst (λ (o : Transcript). Handed d b carried.put (deed ∷ o)) (sym carried.is) (a ∷ [], os, carried.rest, refl, refl, carried.stood);
        sent = was.sent;
        asked = given.asked carried.put d b (a ∷ []) real put_within was.sent;
      }

  pub delivered_from : (d b : As) → d ≢ parent_as → (r : Request) (at : Transcript) → Within at now → Delivered c at b (Inner d) r → (a : Asked) × (c.check a b ≡ Admitted r) × IsFrom d b a at
  delivered_from d b real r [] within h = absurd h
  delivered_from d b real r (e ∷ older) within h =
      (h.0, h.3, subst (λ (z : PlantDeed). IsFrom d b h.0 (z ∷ older)) (sym h.2) (from_inner d b real h.0 h.1 older (subst (λ (z : PlantDeed). Within (z ∷ older) now) h.2 within)))

  -- the request that was sent on is admitted as what was wanted
  pub next_admits : (d b : As) (a : Asked) (flags x : ℕ) (w : Wanted) → Admits c a d flags x w → (rest : List As) → sequence_or d w.sequence ≡ d ∷ b ∷ rest → (id : ℕ) → 1 ≤ id → id < 2 ^ 32 →
      Admits c (asked_of id w w.target (b ∷ rest)) b vspt_flag id (on_wanted w b rest)
  next_admits d b a flags x w admits rest is id some fits =
      codec.onward.admits a d flags x w admits id w.target b rest some fits (later_sequence d b rest (along_sequence d b rest w.sequence (codec.onward.own a d flags x w admits).2 is))

  -- what an element, other than the parent, sent to another: along a sequence
  pub record IsAlong (d b : As) (a : Asked) (put : Transcript) : Type 0 where
    pub asked : IsAsked c n put d b (a ∷ [])
    pub rest : List As
    pub sequence : sequence_or d asked.wanted.sequence ≡ d ∷ b ∷ rest
    pub is : a ≡ asked_of asked.id asked.wanted asked.wanted.target (b ∷ rest)
    pub admits : Admits c a b vspt_flag asked.id (on_wanted asked.wanted b rest)

  pub sent_along : (d b : As) → b ≢ parent_as → (a : Asked) (put : Transcript) → IsAsked c n put d b (a ∷ []) → IsAlong d b a put
  sent_along d b real a put asked = elim asked.sends [
    | inl on ↦
        let is = same_first a (asked_of asked.id asked.wanted asked.wanted.target (b ∷ on.0)) [] [] on.2 in
        record {
          asked = asked;
          rest = on.0;
          sequence = on.1;
          is = is;
          admits = subst (λ (z : Asked). Admits c z b vspt_flag asked.id (on_wanted asked.wanted b on.0)) (sym is)
              (next_admits d b asked.taken asked.flags asked.x asked.wanted asked.admits on.0 on.1 asked.id asked.some asked.fits);
        }
    | inr up ↦ absurd (real up.0)
  ]
