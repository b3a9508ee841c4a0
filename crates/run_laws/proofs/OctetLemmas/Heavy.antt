-- The requests that stand in queues, and how many each may bring about from one end to another: those along the domains that it has yet to go through.
use Rattle.std.proofs.Common.{◌≡◌, ◌∙◌, ◌≤◌, ◌<◌, ◌+◌, ℕ, Bool, true, false, cond, List, [], ◌∷◌, ◌++◌, Option, Some, None, refl, sym, ap, subst, arith}
use Rattle.std.proofs.Math.Nat.{le_refl}
use Rattle.std.proofs.lemmas.Bool.{eq-eqb}
use Rattle.plant_laws.specs.plant_model.Types.{As, Asked, Message, Wish}
use Rattle.pcep_messages.specs.declared.message.Message.TheVariants as messages
use Rattle.pcep_messages.specs.declared.message.Wish.TheVariants.{Path, Expand}
use Rattle.plant_text.specs.Names.{same_as, parent_as}
use Rattle.plant_laws.specs.plant_model.Names.{set_pair}
use Rattle.plant_laws.specs.plant_model.Wire.{Bytes, Codec, Checked, Admitted, Wrong}
use Rattle.plant_laws.specs.plant_model.Taking.{sequence_or}
use Rattle.plant_laws.proofs.Runs.Queues.{same_as_is}
use Rattle.run_laws.proofs.OctetLemmas.Steps.{route_heavy}
use Rattle.run_laws.proofs.OctetLemmas.Below.{below, below_le, below_more, below_less, below_grows}

-- the queues between elements
abbrev pub Queues : Type 0
Queues = As → As → List Bytes

abbrev pub as_of : ℕ → As
as_of i = record { 0 = i }

pub same_self : (a : As) → same_as a a ≡ true
same_self a = eq-eqb a.0 a.0 refl

module _ (x y : As) (c : Codec) where
  abbrev pub wish_heavy : As → Wish → ℕ
  wish_heavy b (Path w) = route_heavy x y (sequence_or b w.sequence)
  wish_heavy b (Expand key pce) = 0

  abbrev pub checked_heavy : As → Checked → ℕ
  checked_heavy b (Wrong rp kind value) = 0
  checked_heavy b (Admitted r) = wish_heavy b r.wish

  -- the parent asks nobody where it has no children
  abbrev pub asked_heavy : As → Asked → ℕ
  asked_heavy b a = cond (same_as b parent_as) 0 (checked_heavy b (c.check a b))

  abbrev pub all_heavy : As → List Asked → ℕ
  all_heavy b [] = 0
  all_heavy b (a ∷ rest) = asked_heavy b a + all_heavy b rest

  abbrev pub message_heavy : As → Message → ℕ
  message_heavy b (messages.PcReq asked) = all_heavy b asked
  message_heavy b (messages.PcRep replies) = 0
  message_heavy b (messages.PcNtf notices) = 0
  message_heavy b (messages.PcErr reports) = 0
  message_heavy b (messages.Open body) = 0
  message_heavy b messages.Keepalive = 0
  message_heavy b (messages.Close why) = 0
  message_heavy b (messages.Other kind) = 0

  abbrev pub read_heavy : As → Option Message → ℕ
  read_heavy b None = 0
  read_heavy b (Some m) = message_heavy b m

  abbrev pub queue_heavy : As → List Bytes → ℕ
  queue_heavy b [] = 0
  queue_heavy b (bytes ∷ rest) = read_heavy b (c.read bytes) + queue_heavy b rest

  pub heavy_append : (b : As) (q : List Bytes) (bytes : Bytes) → queue_heavy b (q ++ bytes ∷ []) ≡ queue_heavy b q + read_heavy b (c.read bytes)
  heavy_append b [] bytes = omega arith
  heavy_append b (first ∷ q) bytes = let more = heavy_append b q bytes in omega (arith, more)

  -- ---- all queues among the ends below a number

  abbrev pub row : Queues → ℕ → As → ℕ
  row q k a = below (λ j. queue_heavy (as_of j) (q a (as_of j))) k

  abbrev pub grid : Queues → ℕ → ℕ
  grid q k = below (λ i. row q k (as_of i)) k

  pub grid_le : (q q' : Queues) → ((a b : As) → queue_heavy b (q a b) ≤ queue_heavy b (q' a b)) → (k : ℕ) → grid q k ≤ grid q' k
  grid_le q q' each k =
      below_le (λ i. row q k (as_of i)) (λ i. row q' k (as_of i))
      (λ i. below_le (λ j. queue_heavy (as_of j) (q (as_of i) (as_of j))) (λ j. queue_heavy (as_of j) (q' (as_of i) (as_of j))) (λ j. each (as_of i) (as_of j)) k) k

  pub grid_grows : (q : Queues) (k l : ℕ) → k ≤ l → grid q k ≤ grid q l
  grid_grows q k l le =
      plain (grid q k) (below (λ i. row q l (as_of i)) k) (grid q l)
      (below_le (λ i. row q k (as_of i)) (λ i. row q l (as_of i)) (λ i. below_grows (λ j. queue_heavy (as_of j) (q (as_of i) (as_of j))) k l le) k)
      (below_grows (λ i. row q l (as_of i)) k l le)
    where
      plain : (g h m : ℕ) → g ≤ h → h ≤ m → g ≤ m
      plain g h m one more = omega (arith, one, more)

  -- one queue changes
  module _ (a b : As) (l : List Bytes) (q : Queues) where
    abbrev pub changed : Queues
    changed = set_pair a b l q

    changed_here : changed a b ≡ l
    changed_here = ap (λ (t : Bool). cond t (cond (same_as b b) l (q a b)) (q a b)) (same_self a) ∙ ap (λ (t : Bool). cond t l (q a b)) (same_self b)

    first_other : (a' b' : As) → same_as a a' ≡ false → changed a' b' ≡ q a' b'
    first_other a' b' miss = ap (λ (t : Bool). cond t (cond (same_as b b') l (q a' b')) (q a' b')) miss

    second_other : (a' b' : As) → same_as b b' ≡ false → changed a' b' ≡ q a' b'
    second_other a' b' miss = ap (λ (t : Bool). cond (same_as a a') (cond t l (q a' b')) (q a' b')) miss ∙ go (same_as a a')
      where
        go : (t : Bool) → cond t (q a' b') (q a' b') ≡ q a' b'
        go true = refl
        go false = refl

    no_more : (a' b' : As) → changed a' b' ≡ q a' b' → queue_heavy b' (changed a' b') ≤ queue_heavy b' (q a' b')
    no_more a' b' is = subst (λ (z : List Bytes). queue_heavy b' z ≤ queue_heavy b' (q a' b')) (sym is) (le_refl (queue_heavy b' (q a' b')))

    -- it is so much heavier
    pub grid_more : (w : ℕ) → queue_heavy b l ≤ queue_heavy b (q a b) + w → (k : ℕ) → grid changed k ≤ grid q k + w
    grid_more w more k =
        below_more (λ i. row changed k (as_of i)) (λ i. row q k (as_of i)) a.0 w
        (λ i miss. below_le (λ j. queue_heavy (as_of j) (changed (as_of i) (as_of j))) (λ j. queue_heavy (as_of j) (q (as_of i) (as_of j))) (λ j. no_more (as_of i) (as_of j) (first_other (as_of i) (as_of j) miss)) k)
        (below_more (λ j. queue_heavy (as_of j) (changed a (as_of j))) (λ j. queue_heavy (as_of j) (q a (as_of j))) b.0 w
        (λ j miss. no_more a (as_of j) (second_other a (as_of j) miss))
        (subst (λ (z : List Bytes). queue_heavy b z ≤ queue_heavy b (q a b) + w) (sym changed_here) more) k)
        k

    each_less : queue_heavy b l ≤ queue_heavy b (q a b) → (a' b' : As) → queue_heavy b' (changed a' b') ≤ queue_heavy b' (q a' b')
    each_less less a' b' = go (same_as a a') (same_as b b') refl refl
      where
        go : (t u : Bool) → same_as a a' ≡ t → same_as b b' ≡ u → queue_heavy b' (cond t (cond u l (q a' b')) (q a' b')) ≤ queue_heavy b' (q a' b')
        go true true e f =
            subst (λ (z : As). queue_heavy z l ≤ queue_heavy z (q a' z)) (same_as_is b b' f) (subst (λ (z : As). queue_heavy b l ≤ queue_heavy b (q z b)) (same_as_is a a' e) less)
        go true false e f = le_refl (queue_heavy b' (q a' b'))
        go false u e f = le_refl (queue_heavy b' (q a' b'))

    -- it is no heavier
    pub grid_no_more : queue_heavy b l ≤ queue_heavy b (q a b) → (k : ℕ) → grid changed k ≤ grid q k
    grid_no_more less k = grid_le changed q (each_less less) k

    -- it is so much lighter
    pub grid_less : (w : ℕ) → queue_heavy b l + w ≤ queue_heavy b (q a b) → (k : ℕ) → a.0 < k → b.0 < k → grid changed k + w ≤ grid q k
    grid_less w less k in_a in_b =
        below_less (λ i. row changed k (as_of i)) (λ i. row q k (as_of i)) a.0 w
        (λ i. below_le (λ j. queue_heavy (as_of j) (changed (as_of i) (as_of j))) (λ j. queue_heavy (as_of j) (q (as_of i) (as_of j))) (λ j. each_less small (as_of i) (as_of j)) k)
        (below_less (λ j. queue_heavy (as_of j) (changed a (as_of j))) (λ j. queue_heavy (as_of j) (q a (as_of j))) b.0 w (λ j. each_less small a (as_of j))
        (subst (λ (z : List Bytes). queue_heavy b z + w ≤ queue_heavy b (q a b)) (sym changed_here) less) k in_b)
        k in_a
      where
        small : queue_heavy b l ≤ queue_heavy b (q a b)
        small = omega (arith, less)

  -- The first message of a queue is taken: what bounds all, whatever the ends, bounds the rest with it.
  pub popped_less : (a b : As) (bytes : Bytes) (rest : List Bytes) (q : Queues) → q a b ≡ bytes ∷ rest → (other most : ℕ) → ((k : ℕ) → other + grid q k ≤ most) → (k : ℕ) →
      other + read_heavy b (c.read bytes) + grid (set_pair a b rest q) k ≤ most
  popped_less a b bytes rest q is other most all k =
      plain other (read_heavy b (c.read bytes)) (grid (set_pair a b rest q) k) (grid (set_pair a b rest q) far) (grid q far) most
      (grid_grows (set_pair a b rest q) k far (omega arith))
      (grid_less a b rest q (read_heavy b (c.read bytes)) popped far (omega arith) (omega arith))
      (all far)
    where
      far : ℕ
      far = k + (1 + a.0) + (1 + b.0)

      popped : queue_heavy b rest + read_heavy b (c.read bytes) ≤ queue_heavy b (q a b)
      popped = subst (λ (z : List Bytes). queue_heavy b rest + read_heavy b (c.read bytes) ≤ queue_heavy b z) (sym is) (omega arith)

      plain : (o r g g' h m : ℕ) → g ≤ g' → g' + r ≤ h → o + h ≤ m → o + r + g ≤ m
      plain o r g g' h m one two three = omega (arith, one, two, three)
