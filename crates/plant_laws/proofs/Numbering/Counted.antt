-- The laws of ids, from the numbers of a run.
use Rattle.std.proofs.Common.{◌≡◌, ◌≢◌, ◌⊎◌, ◌≤◌, ℕ, suc, Bool, true, false, List, [], ◌∷◌, inl, inr, sym, ◌∙◌, ap, subst, refl, arith}
use Rattle.plant_model.specs.Types.{As, Addr, Message, Asked, Wanted, Object, Inner}
use Rattle.pcep_objects.specs.declared.object.Body.TheVariants as bodies
use Rattle.plant_model.specs.declared.output.Output.{Output}
use Rattle.plant_text.specs.Names.{same_as, parent_as}
use Rattle.plant_model.specs.Wire.{Codec}
use Rattle.plant_model.specs.Writing.{asked_of, request_message, needed, vspt_flag}
use Rattle.plant_model.specs.Plant.{Pin, PlantDeed, deeds_of}
use Rattle.plant_laws.specs.Transcript.{Transcript, Within, SentIn, asks, outputs_at, count_asks, put_into}
use Rattle.plant_laws.specs.Counted.{IdsCountIn, ElementIdsDifferIn}
use Rattle.plant_laws.proofs.Runs.Queues.{same_as_is}
use Rattle.plant_laws.proofs.Runs.Rows.{In, in_of}
use Rattle.plant_laws.proofs.WrittenForm.ReadBack.{run_single}
use Rattle.plant_laws.proofs.Numbering.Numbers.{way_last, fresh_is_next}
use Rattle.plant_laws.proofs.Numbering.NumberRuns.{AreNumbered, IsNumbered, peer_self, run_last}
use Rattle.plant_laws.proofs.WrittenForm.WhereWritten.{WrittenIds}

head_of : Object → List Object → Object
head_of x [] = x
head_of x (o ∷ os) = o

-- a message of one request has its id
pub same_request_id : (x y : ℕ) (w w' : Wanted) (t t' : Addr) (rest rest' : List As) → request_message x w t rest ≡ request_message y w' t' rest' → x ≡ y
unfolding head_of
same_request_id x y w w' t t' rest rest' e =
    let lists : asked_of x w t rest ∷ [] ≡ asked_of y w' t' rest' ∷ [] = cc in
    let heads : asked_of x w t rest ≡ asked_of y w' t' rest' = cc in
    let first : needed 2 (bodies.Rp vspt_flag x) ≡ needed 2 (bodies.Rp vspt_flag y) = ap (λ (a : Asked). head_of (needed 2 (bodies.Rp vspt_flag x)) a.objects) heads in
    let body : bodies.Rp vspt_flag x ≡ bodies.Rp vspt_flag y = ap (λ (o : Object). o.body) first in
    cc

pub low_of : (a : As) → a ≢ parent_as → same_as a parent_as ≡ false
low_of a other = go (same_as a parent_as) refl
  where
    go : (b : Bool) → same_as a parent_as ≡ b → b ≡ false
    go true is = absurd (other (same_as_is a parent_as is))
    go false is = refl

abbrev OneOut : As → ℕ → Wanted → Addr → List As → List Output
OneOut b x w t rest = record { to = Inner b; message = request_message x w t rest } ∷ []

-- the number of a request, and the one output of its deed
pub numbered_is : (c : Codec) (a b : As) (e : PlantDeed) (older : Transcript) → IsNumbered c a e older → (x : ℕ) (w : Wanted) (t : Addr) (rest : List As) → SentIn (e ∷ older) a (Inner b) (request_message x w t rest) →
    (x ≡ suc (asks a b older)) × (asks a b (e ∷ older) ≡ x) × (outputs_at a e ≡ OneOut b x w t rest)
numbered_is c a b e older numbered x w t rest sent = elim (numbered b) [
  | inl none ↦ absurd (none.none (request_message x w t rest) (in_of (record { to = Inner b; message = request_message x w t rest }) (outputs_at a e) sent) tt)
  | inr r ↦ go r.0 r.1 r.2 r.3 (subst (λ (l : List Output). In {A = Output} (record { to = Inner b; message = request_message x w t rest }) l) r.3 (in_of (record { to = Inner b; message = request_message x w t rest }) (outputs_at a e) sent))
]
  where
    go : (w' : Wanted) (t' : Addr) (rest' : List As) → outputs_at a e ≡ OneOut b (suc (asks a b older)) w' t' rest' → In {A = Output} (record { to = Inner b; message = request_message x w t rest }) (OneOut b (suc (asks a b older)) w' t' rest') →
        (x ≡ suc (asks a b older)) × (asks a b (e ∷ older) ≡ x) × (outputs_at a e ≡ OneOut b x w t rest)
    go w' t' rest' outs (inl is) =
        let messages = ap (λ (o : Output). o.message) is in
        let id : suc (asks a b older) ≡ x = same_request_id (suc (asks a b older)) x w' w t' t rest' rest messages in
        let count : count_asks (put_into b (outputs_at a e)) ≡ 1 = ap (λ (l : List Output). count_asks (put_into b l)) outs ∙ rw (peer_self (Inner b)) refl in
        (sym id, omega (arith, count, id), outs ∙ ap (λ (o : Output). o ∷ []) is)
    go w' t' rest' outs (inr never) = absurd never

pub numbered_within : (c : Codec) (a : As) (now : Transcript) → AreNumbered c a now → (e : PlantDeed) (older : Transcript) → Within (e ∷ older) now → IsNumbered c a e older
numbered_within c a [] all e older within = absurd (let out : e ∷ older ≡ [] = within in cc)
numbered_within c a (d ∷ ds) all e older (inl is) =
    let heads : e ≡ d = cc in
    let tails : older ≡ ds = cc in
    subst (λ (x : PlantDeed). IsNumbered c a x older) (sym heads) (subst (λ (l : Transcript). IsNumbered c a d l) (sym tails) all.0)
numbered_within c a (d ∷ ds) all e older (inr within) = numbered_within c a ds all.1 e older within

pub asks_within : (a b : As) (m now : Transcript) → Within m now → asks a b m ≤ asks a b now
asks_within a b m [] within = subst (λ (l : Transcript). asks a b m ≤ asks a b l) within (omega arith)
asks_within a b m (e ∷ older) (inl is) = subst (λ (l : Transcript). asks a b m ≤ asks a b l) is (omega arith)
asks_within a b m (e ∷ older) (inr within) = let le = asks_within a b m older within in omega (arith, le)

in_order : (now : Transcript) (e e' : PlantDeed) (o o' : Transcript) → Within (e ∷ o) now → Within (e' ∷ o') now → (e ∷ o ≡ e' ∷ o') ⊎ (Within (e ∷ o) o' ⊎ Within (e' ∷ o') o)
in_order [] e e' o o' w w' = absurd (let out : e ∷ o ≡ [] = w in cc)
in_order (f ∷ now) e e' o o' (inl is) (inl is') = inl (is ∙ sym is')
in_order (f ∷ now) e e' o o' (inl is) (inr w') = let tails : now ≡ o = cc in inr (inr (subst (Within (e' ∷ o')) tails w'))
in_order (f ∷ now) e e' o o' (inr w) (inl is') = let tails : now ≡ o' = cc in inr (inl (subst (Within (e ∷ o)) tails w))
in_order (f ∷ now) e e' o o' (inr w) (inr w') = in_order now e e' o o' w w'

-- no id is given twice
pub ids_differ : (c : Codec) (a b : As) (now : Transcript) → AreNumbered c a now → (m m' : Transcript) → Within m now → Within m' now → (x : ℕ) (w w' : Wanted) (t t' : Addr) (rest rest' : List As) →
    SentIn m a (Inner b) (request_message x w t rest) → SentIn m' a (Inner b) (request_message x w' t' rest') → (m ≡ m') × (request_message x w t rest ≡ request_message x w' t' rest')
ids_differ c a b now all [] m' within within' x w w' t t' rest rest' sent sent' = absurd sent
ids_differ c a b now all (e ∷ o) [] within within' x w w' t t' rest rest' sent sent' = absurd sent'
ids_differ c a b now all (e ∷ o) (e' ∷ o') within within' x w w' t t' rest rest' sent sent' =
    let one = numbered_is c a b e o (numbered_within c a now all e o within) x w t rest sent in
    let two = numbered_is c a b e' o' (numbered_within c a now all e' o' within') x w' t' rest' sent' in
    elim (in_order now e e' o o' within within') [
      | inl same ↦ (
        same,
        let heads : e ≡ e' = cc in
            let outs : OneOut b x w t rest ≡ OneOut b x w' t' rest' = sym one.2 ∙ ap (λ (d : PlantDeed). outputs_at a d) heads ∙ two.2 in
            ap (λ (l : List Output). first_message l) outs,
      )
      | inr (inl before) ↦ absurd (let le = asks_within a b (e ∷ o) o' before in let p = one.1 in let q = two.0 in omega (arith, le, p, q))
      | inr (inr before) ↦ absurd (let le = asks_within a b (e' ∷ o') o before in let p = two.1 in let q = one.0 in omega (arith, le, p, q))
    ]
  where
    first_message : List Output → Message
    first_message [] = request_message x w t rest
    first_message (o ∷ os) = o.message

pub element_ids_differ : WrittenIds ElementIdsDifferIn
element_ids_differ c codec n es s run written short m m' within within' a b real x w w' t t' rest rest' sent sent' =
    ids_differ c a b (deeds_of c n es) (run_last c codec n es s run (run_single c n codec es s run written) short a (low_of a real)).1 m m' within within' x w w' t t' rest rest' sent sent'

pub ids_count : WrittenIds IdsCountIn
ids_count c codec n es s run written short a b real =
    let r = (run_last c codec n es s run (run_single c n codec es s run written) short a (low_of a real)).0 b in
    record {
      last = λ w is. (way_last (Inner b) (s.elements a).ways w is).0 ∙ r.0;
      waits = λ h i y is. r.1 h (in_of h (s.elements a).pending.rows i) y is;
      next = λ less. fresh_is_next Pin (Inner b) (asks a b (deeds_of c n es)) (s.elements a).pending.rows less r.1;
    }
