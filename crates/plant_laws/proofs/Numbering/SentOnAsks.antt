-- What a node does with its ids when it takes a message, and that what it sends on asks its receiver.
use Rattle.std.proofs.Common.{◌≡◌, ◌⊎◌, ◌≤◌, ◌<◌, ◌+◌, ◌==◌, ℕ, suc, Bool, true, false, cond, List, [], ◌∷◌, Some, sym, ◌∙◌, ap, subst, inl, inr, refl, arith}
use Rattle.std.proofs.lemmas.Bool.{cases_Bool, eqb-true}
use Rattle.plant_model.specs.Types.{As, Addr, Peer, Outside, Inner, Asked, Wanted}
use Rattle.dom_base.specs.declared.addr.Addr.TheVariants.{V4, V6}
use Rattle.request_table.specs.Pending.{same_peer}
use Rattle.plant_model.specs.declared.output.Output.{Output}
use Rattle.plant_model.specs.declared.route.Route.{Route}
use Rattle.plant_text.specs.Names.{same_as, parent_as}
use Rattle.plant_model.specs.Wire.{Codec}
use Rattle.plant_model.specs.Writing.{request_message, ends_kind, vspt_flag}
use Rattle.plant_model.specs.Laws.{IsCodec, IsSequence, Admits}
use Rattle.plant_model.specs.Element.{Stage, Waits, Ready, Row, Way, way_to, with_last, fresh_id, pass_over, after_id, is_waiting, waits_for}
use Rattle.plant_model.specs.Parent.{last_to}
use Rattle.plant_model.specs.State.{Deed}
use Rattle.plant_model.specs.Plant.{Pin, Segment}
use Rattle.plant_laws.specs.Transcript.{put_into, count_asks, outputs_at}
use Rattle.plant_laws.proofs.Once.Handing.{In, IsAsk}
use Rattle.plant_laws.proofs.Numbering.Sends.{NoneAsks}
use Rattle.plant_laws.proofs.Numbering.SentOn.{same_peer_is}
use Rattle.plant_laws.proofs.Once.Asks.{Asks, admitted, refused}
use Rattle.plant_laws.proofs.Settled.Alive.{IsSound}
use Rattle.plant_laws.proofs.Numbering.Decode.{Rising, same_request}
use Rattle.plant_laws.proofs.Numbering.Errands.{Last, after_suc, pass_still}
use Rattle.plant_laws.proofs.Numbering.NumberRuns.{toward_inner}
use Rattle.plant_laws.proofs.Numbering.Onward.{GoesTo, last_other, last_own, way_peer}

-- an output that asks, asks its receiver
abbrev pub IsGood : Codec → Output → Type 0
IsGood c o = (b : As) → o.to ≡ Inner b → IsAsk o.message → (y : ℕ) × (w : Wanted) × (t : Addr) × (l : List As) × (o.message ≡ request_message y w t l) × Asks c o.message b y l

pub good_none : (c : Codec) (os : List Output) → NoneAsks os → (o : Output) → In o os → IsGood c o
good_none c [] none o h = absurd h
good_none c (x ∷ os) none o (inl same) = λ b to ask. absurd (none.0 (subst (λ (z : Output). IsAsk z.message) same ask))
good_none c (x ∷ os) none o (inr h) = good_none c os none.1 o h

in_cond : (b : Bool) (o : Output) (os : List Output) → In o (cond b os []) → In o os
in_cond true o os h = h
in_cond false o os h = absurd h

pub sound_deed : (c : Codec) (d : As) (os : List Output) (e : Deed Segment) → ((a : As) → outputs_at a e ≡ cond (same_as d a) os []) → ((o : Output) → In o os → IsGood c o) → IsSound c e
sound_deed c d os e outs good a b id w target l h =
    let o : Output = record { to = Inner b; message = request_message id w target l } in
    let there : In o os = in_cond (same_as d a) o os (subst (λ (xs : List Output). In o xs) (outs a) h) in
    let g = good o there b refl tt in
    let same = same_request id g.0 w g.1 target g.2 l g.3 g.4 in
    subst (λ (y : ℕ). Asks c (request_message id w target l) b y l) (sym same.0) (subst (λ (k : List As). Asks c (request_message id w target l) b g.0 k) (sym same.1) g.5)

pub quiet_sound : (c : Codec) (e : Deed Segment) → ((a : As) → outputs_at a e ≡ []) → IsSound c e
quiet_sound c e outs a b id w target l h = absurd (subst (λ (xs : List Output). In {A = Output} (record { to = Inner b; message = request_message id w target l }) xs) (outs a) h)

-- ---- the request that an element sends on

pub ask_along : (c : Codec) → IsCodec c → (a : Asked) (own : As) (flags x : ℕ) (w : Wanted) → Admits c a own flags x w → (y : ℕ) (t : Addr) (next : As) (rest : List As) → 1 ≤ y → y ≤ 4294967295 → IsSequence next rest →
    Asks c (request_message y w t (next ∷ rest)) next y (next ∷ rest)
ask_along c codec a own flags x w is y t next rest some fits sequence = record {
  sent = w;
  end = t;
  is = refl;
  met = admitted vspt_flag _ (codec.onward.admits a own flags x w is y t next rest some (omega (arith, fits)) sequence) (λ real. (refl, (rest, refl)));
}

-- the type of END-POINTS is 1 or 2
pub ends_are : (source target : Addr) → (ends_kind source target ≡ 1) ⊎ (ends_kind source target ≡ 2)
ends_are (V4 m) target = inl refl
ends_are (V6 m) (V4 n) = inl refl
ends_are (V6 m) (V6 n) = inr refl

pub ask_upward : (c : Codec) → IsCodec c → (a : Asked) (own : As) (flags x : ℕ) (w : Wanted) → Admits c a own flags x w → (y : ℕ) → 1 ≤ y → y ≤ 4294967295 → Asks c (request_message y w w.target []) parent_as y []
ask_upward c codec a own flags x w is y some fits = record {
  sent = w;
  end = w.target;
  is = refl;
  met = elim (ends_are w.source w.target) [
    | inl four ↦ admitted vspt_flag _ (codec.onward.admits_upward a own flags x w is four y some (omega (arith, fits))) (λ real. absurd (let out : true ≡ false = real in cc))
    | inr six ↦ refused vspt_flag refl (codec.onward.refuses_upward w y six)
  ];
}

-- the rest of a sequence is one
pub rest_sequence : (own next : As) (more : List As) → IsSequence own (next ∷ more) → IsSequence next more
rest_sequence own next more s = record {
  few = let f = s.few in omega (arith, f);
  differ = λ i j d lt le. s.differ (suc i) (suc j) d (omega (arith, lt)) (omega (arith, le));
  real = λ i d le. s.real (suc i) d (omega (arith, le));
}

-- where it goes to an element, or to the parent, it asks there
pub goes_asks : (c : Codec) → IsCodec c → (a : Asked) (own : As) (routes : List Route) (flags x : ℕ) (w : Wanted) → Admits c a own flags x w → (to : Peer) (rest : List As) → GoesTo Pin Segment routes w to rest → (z : As) → to ≡ Inner z → (y : ℕ) → 1 ≤ y → y ≤ 4294967295 →
    Asks c (request_message y w w.target rest) z y rest
goes_asks c codec a own routes flags x w is to rest (inl up) z there y some fits =
    let same : Inner z ≡ Inner parent_as = sym there ∙ up.0 in
    let at : z ≡ parent_as = cc in
    subst (λ (d : As). Asks c (request_message y w w.target rest) d y rest) (sym at) (subst (λ (l : List As). Asks c (request_message y w w.target l) parent_as y l) (sym up.1) (ask_upward c codec a own flags x w is y some fits))
goes_asks c codec a own routes flags x w is to rest (inr on) z there y some fits =
    let at : z ≡ on.1 = toward_inner on.1 z routes (sym there ∙ on.3) in
    subst (λ (d : As). Asks c (request_message y w w.target rest) d y rest) (sym at)
    (subst (λ (l : List As). Asks c (request_message y w w.target l) on.1 y l) (sym on.4) (ask_along c codec a own flags x w is y w.target on.1 on.2 some fits (sequence (codec.onward.own a own flags x w is).2)))
  where
    sequence : (w.sequence ≡ []) ⊎ ((rest' : List As) × (w.sequence ≡ own ∷ rest') × IsSequence own rest') → IsSequence on.1 on.2
    sequence (inl none) = absurd (let out : on.0 ∷ on.1 ∷ on.2 ≡ [] = sym on.5 ∙ none in cc)
    sequence (inr s) =
        let same : own ∷ s.0 ≡ on.0 ∷ on.1 ∷ on.2 = sym s.1 ∙ on.5 in
        let tail : s.0 ≡ on.1 ∷ on.2 = cc in
        rest_sequence own on.1 on.2 (subst (λ (l : List As). IsSequence own l) tail s.2)

at_waits : (g : Stage) (p : Peer) (y : ℕ) → waits_for p y g ≡ true → g ≡ Waits p y
at_waits (Ready bs) p y e = absurd (let out : false ≡ true = e in cc)
at_waits (Waits on id) p y e = go (same_peer on p) refl e
  where
    go : (b : Bool) → same_peer on p ≡ b → cond b (id == y) false ≡ true → Waits on id ≡ Waits p y
    go true is hit = ap (λ (q : Peer). Waits q id) (same_peer_is on p is) ∙ ap (λ (n : ℕ). Waits p n) (eqb-true id y hit)
    go false is hit = absurd (let out : false ≡ true = hit in cc)

-- nothing waits for an id above the last
pub none_waits_above : (p : Peer) (y : ℕ) (rows : List (Row Pin)) → ((h : Row Pin) → In h rows → (id : ℕ) → h.1.item.stage ≡ Waits p id → id < y) → is_waiting p rows y ≡ false
none_waits_above p y [] below = refl
none_waits_above p y (h ∷ rows) below = elim (cases_Bool (waits_for p y h.1.item.stage)) [
  | inl hit ↦ absurd (let lt = below h (inl refl) y (at_waits h.1.item.stage p y hit) in omega arith)
  | inr miss ↦ rw miss (none_waits_above p y rows (λ g i. below g (inr i)))
]

-- the ids of one request
pub one_rises : (p : Peer) (z : As) (ways : List Way) (way : Way) (y : ℕ) (w : Wanted) (t : Addr) (rest : List As) → way_to (Inner z) ways ≡ Some way → y ≡ suc (Last ways z) → p ≡ Inner z → (b : As) →
    (let os : List Output = record { to = p; message = request_message y w t rest } ∷ [] in
    Rising (put_into b os) (Last ways b) (Last (with_last p y ways) b) × (Last (with_last p y ways) b ≤ Last ways b + count_asks (put_into b os)))
one_rises p z ways way y w t rest found is peer b =
    subst (λ (q : Peer). (let os : List Output = record { to = q; message = request_message y w t rest } ∷ [] in
    Rising (put_into b os) (Last ways b) (Last (with_last q y ways) b) × (Last (with_last q y ways) b ≤ Last ways b + count_asks (put_into b os)))) (sym peer)
    (elim (cases_Bool (same_peer (Inner z) (Inner b))) [
      | inl hit ↦
          let same : Inner z ≡ Inner b = same_peer_is (Inner z) (Inner b) hit in
          let own : last_to (way_to (Inner b) (with_last (Inner z) y ways)) ≡ y = subst (λ (q : Peer). last_to (way_to q (with_last (Inner z) y ways)) ≡ y) same (last_own (Inner z) y ways way found) in
          let next : y ≡ suc (last_to (way_to (Inner b) ways)) = subst (λ (q : Peer). y ≡ suc (last_to (way_to q ways))) same is in
          rw hit ((omega (arith, next), omega (arith, own)), omega (arith, own, next))
      | inr miss ↦ let other = ap last_to (last_other (Inner b) (Inner z) y ways miss) in rw miss (omega (arith, other), omega (arith, other))
    ])

-- a request to an outside peer leaves the ids of links as they are
pub outside_rises : (p : Peer) (i : ℕ) (ways : List Way) (y : ℕ) (w : Wanted) (t : Addr) (rest : List As) → p ≡ Outside i → (b : As) →
    (let os : List Output = record { to = p; message = request_message y w t rest } ∷ [] in
    Rising (put_into b os) (Last ways b) (Last (with_last p y ways) b) × (Last (with_last p y ways) b ≤ Last ways b + count_asks (put_into b os)))
outside_rises p i ways y w t rest is b =
    subst (λ (q : Peer). (let os : List Output = record { to = q; message = request_message y w t rest } ∷ [] in
    Rising (put_into b os) (Last ways b) (Last (with_last q y ways) b) × (Last (with_last q y ways) b ≤ Last ways b + count_asks (put_into b os)))) (sym is)
    (let other = ap last_to (last_other (Inner b) (Outside i) y ways refl) in (omega (arith, other), omega (arith, other)))

-- the fresh id is the next
pub fresh_next : (z : As) (ways : List Way) (way : Way) (rows : List (Row Pin)) → way_to (Inner z) ways ≡ Some way → Last ways z < 4294967295 → ((h : Row Pin) → In h rows → (id : ℕ) → h.1.item.stage ≡ Waits (Inner z) id → id ≤ Last ways z) →
    fresh_id way.peer way.last_id rows ≡ suc (Last ways z)
fresh_next z ways way rows found less below =
    let peer : way.peer ≡ Inner z = way_peer (Inner z) ways way found in
    let last : way.last_id ≡ Last ways z = sym (ap last_to found) in
    let next : after_id (Last ways z) ≡ suc (Last ways z) = after_suc (Last ways z) less in
    let free : is_waiting (Inner z) rows (suc (Last ways z)) ≡ false = none_waits_above (Inner z) (suc (Last ways z)) rows (λ h i id is. (let le = below h i id is in omega (arith, le))) in
    ap (λ (q : Peer). fresh_id q way.last_id rows) peer ∙ ap (λ (n : ℕ). fresh_id (Inner z) n rows) last
    ∙ ap (λ (n : ℕ). pass_over rows (is_waiting (Inner z) rows) n) next ∙ pass_still rows (is_waiting (Inner z) rows) (suc (Last ways z)) free
