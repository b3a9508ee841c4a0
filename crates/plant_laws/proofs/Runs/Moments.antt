-- Moments of a transcript: one within another, what stands in queues was put there, and what is open began before.
use Rattle.std.proofs.Common.{◌≡◌, ◌≤◌, ℕ, Bool, true, false, cond, List, [], ◌∷◌, length, Option, Some, None, sym, ◌∙◌, ap, subst, inl, inr, refl, arith}
use Rattle.std.specs.Prelude.{Contains}
use Rattle.std.proofs.lemmas.Bool.{eqb-true}
use Rattle.std.proofs.lemmas.List.Elements.{Contains-append_cases}
use Rattle.plant_model.specs.Types.{As, Peer, Outside, Inner, Message}
use Rattle.plant_model.specs.declared.output.Output.{Output}
use Rattle.request_table.specs.Pending.{same_peer}
use Rattle.plant_text.specs.Names.{same_as, same_link}
use Rattle.plant_model.specs.Wire.{Codec}
use Rattle.plant_model.specs.State.{Loads, Pops, Takes, Says, Ups, Downs, Clears, Solves, Expires, Hands}
use Rattle.plant_model.specs.Plant.{PlantDeed}
use Rattle.plant_laws.specs.Transcript.{Transcript, Within, Standing, standing, standing_of, put_into, left_of, tail_of, outputs_at, SentIn, Effect, Keeps, Ends, Begins, after, effect, opened, Visit, Chain}
use Rattle.border_costs.proofs.Members.{contains_head, contains_tail, contains_none, contains_cases}

pub within_here : (m : Transcript) → Within m m
within_here [] = refl
within_here (e ∷ older) = inl refl

pub within_trans : (a b now : Transcript) → Within a b → Within b now → Within a now
within_trans a b [] h k = subst (λ (x : Transcript). Within a x) k h
within_trans a b (e ∷ older) h (inl same) = subst (λ (x : Transcript). Within a x) same h
within_trans a b (e ∷ older) h (inr k) = inr (within_trans a b older h k)

pub within_length : (a now : Transcript) → Within a now → length a ≤ length now
within_length a [] h = let same = ap (λ (x : Transcript). length x) h in omega (arith, same)
within_length a (e ∷ older) (inl same) = let one = ap (λ (x : Transcript). length x) same in omega (arith, one)
within_length a (e ∷ older) (inr h) = let le = within_length a older h in omega (arith, le)

-- what stands in a queue, and the moment that put it there
pub record WasPut (a b : As) (now : Transcript) (x : Standing) : Type 0 where
  pub within : Within x.put now
  pub sent : SentIn x.put a (Inner b) x.message

put_later : (a b : As) (e : PlantDeed) (older : Transcript) (x : Standing) → WasPut a b older x → WasPut a b (e ∷ older) x
put_later a b e older x h = record { within = inr h.within; sent = h.sent }

abbrev pub all_put : As → As → Transcript → List Standing → Type 0
all_put a b now xs = (x : Standing) → Contains xs x → WasPut a b now x

pub no_more : {X : Type 0} (b : Bool) (xs : List X) (x : X) → Contains (cond b xs []) x → (b ≡ true) × Contains xs x
no_more true xs x h = (refl, h)
no_more false xs x h = absurd (contains_none x h)

pub peer_is : (p q : Peer) → same_peer p q ≡ true → p ≡ q
peer_is (Outside i) (Outside j) e = ap (λ (n : ℕ). let x : Peer = Outside n in x) (eqb-true i j e)
peer_is (Outside i) (Inner b) e = absurd (differ e)
  where
    differ : false ≡ true → ⊥
    differ e' = cc
peer_is (Inner a) (Outside j) e = absurd (differ e)
  where
    differ : false ≡ true → ⊥
    differ e' = cc
peer_is (Inner a) (Inner b) e = ap (λ (n : ℕ). let x : Peer = Inner (record { 0 = n }) in x) (eqb-true a.0 b.0 e)

-- what is put into a queue is among what is sent
into_sent : (b : As) (os : List Output) (m : Message) → Contains (put_into b os) m → Contains os (record { to = Inner b; message = m })
into_sent b [] m h = absurd (contains_none m h)
into_sent b (o ∷ os) m h = go (same_peer o.to (Inner b)) refl (λ k. into_sent b os m k) h
  where
    go : (y : Bool) → same_peer o.to (Inner b) ≡ y → (Contains (put_into b os) m → Contains os (record { to = Inner b; message = m })) → Contains (cond y (o.message ∷ put_into b os) (put_into b os)) m → Contains (o ∷ os) (record { to = Inner b; message = m })
    go true e more k = elim (contains_cases o.message (put_into b os) m k) [
      | inl same ↦
          let to : o.to ≡ Inner b = peer_is o.to (Inner b) e in
          let is : o ≡ record { to = Inner b; message = m } =
          ap (λ (p : Peer). let x : Output = record { to = p; message = o.message } in x) to ∙ ap (λ (n : Message). let x : Output = record { to = Inner b; message = n } in x) same in
          subst (λ (x : Output). Contains (o ∷ os) x) is (contains_head o os)
      | inr inside ↦ contains_tail o os (record { to = Inner b; message = m }) (more inside)
    ]
    go false e more k = contains_tail o os (record { to = Inner b; message = m }) (more k)

of_standing : (m : Transcript) (ms : List Message) (x : Standing) → Contains (standing_of m ms) x → (x.put ≡ m) × Contains ms x.message
of_standing m [] x h = absurd (contains_none x h)
of_standing m (k ∷ ks) x h = elim (contains_cases (record { message = k; put = m }) (standing_of m ks) x h) [
  | inl same ↦ (ap (λ (y : Standing). y.put) (sym same), subst (λ (y : Message). Contains (k ∷ ks) y) (ap (λ (y : Standing). y.message) same) (contains_head k ks))
  | inr more ↦ (let r = of_standing m ks x more in (r.0, contains_tail k ks x.message r.1))
]

in_tail : {X : Type 0} (xs : List X) (x : X) → Contains (tail_of xs) x → Contains xs x
in_tail [] x h = h
in_tail (y ∷ ys) x h = contains_tail y ys x h

in_left : (e : PlantDeed) (a b : As) (xs : List Standing) (x : Standing) → Contains (left_of e a b xs) x → Contains xs x
in_left (Pops from to) a b xs x h = go (same_as from a) (same_as to b) h
  where
    go : (y z : Bool) → Contains (cond y (cond z (tail_of xs) xs) xs) x → Contains xs x
    go true true k = in_tail xs x k
    go true false k = k
    go false z k = k
in_left (Clears one other) a b xs x h = go (same_link one other a b) h
  where
    go : (y : Bool) → Contains (cond y [] xs) x → Contains xs x
    go true k = absurd (contains_none x k)
    go false k = k
in_left (Loads at g) a b xs x h = h
in_left (Takes at from m os) a b xs x h = h
in_left (Says at o) a b xs x h = h
in_left (Ups at p) a b xs x h = h
in_left (Downs at p os) a b xs x h = h
in_left (Solves at k os keys) a b xs x h = h
in_left (Expires now) a b xs x h = h
in_left (Hands i bytes) a b xs x h = h

pub standing_put : (a b : As) (now : Transcript) → all_put a b now (standing a b now)
standing_put a b [] x h = absurd (contains_none x h)
standing_put a b (e ∷ older) x h =
    elim (Contains-append_cases (left_of e a b (standing a b older)) (standing_of (e ∷ older) (put_into b (outputs_at a e))) x h) [
      | inl left ↦ put_later a b e older x (standing_put a b older x (in_left e a b (standing a b older) x left))
      | inr new ↦
          let r = of_standing (e ∷ older) (put_into b (outputs_at a e)) x new in
          record {
            within = subst (λ (m : Transcript). Within m (e ∷ older)) (sym r.0) (inl refl);
            sent = subst (λ (m : Transcript). SentIn m a (Inner b) x.message) (sym r.0) (into_sent b (outputs_at a e) x.message r.1);
          }
    ]

-- what is open began within
pub opened_within : (c : Codec) (d : As) (p : Peer) (x : ℕ) (now at : Transcript) → opened c d p x now ≡ Some at → Within at now
opened_within c d p x [] at h = absurd (differ h)
  where
    differ : ◌≡◌ {A = Option Transcript} None (Some at) → ⊥
    differ e' = cc
opened_within c d p x (e ∷ older) at h = go (effect c d p x e) (opened c d p x older) (λ h'. opened_within c d p x older at h') h
  where
    go : (f : Effect) (o : Option Transcript) → (o ≡ Some at → Within at older) → after f o (e ∷ older) ≡ Some at → Within at (e ∷ older)
    go Keeps o more h' = inr (more h')
    go Ends o more h' = absurd (differ h')
      where
        differ : ◌≡◌ {A = Option Transcript} None (Some at) → ⊥
        differ e' = cc
    go Begins None more h' = let same : e ∷ older ≡ at = cc in inl (sym same)
    go Begins (Some m) more h' = inr (more h')

-- a chain is one at a later moment
pub chain_later : (legs : List Visit) (m now : Transcript) → Within m now → Chain m legs → Chain now legs
chain_later [] m now w h = h
chain_later (one ∷ []) m now w h = (within_trans one.at m now h.0 w, within_trans one.solved m now h.1 w)
chain_later (one ∷ next ∷ rest) m now w h = (within_trans one.at m now h.0 w, within_trans one.solved m now h.1 w, h.2, chain_later (next ∷ rest) m now w h.3)
