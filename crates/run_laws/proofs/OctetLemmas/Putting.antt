-- What is put into queues: how many requests it is, and how heavy the queues become.
use Rattle.std.proofs.Common.{◌≡◌, ◌∙◌, ◌≤◌, ◌+◌, ℕ, Bool, true, false, cond, List, [], ◌∷◌, ◌++◌, Option, Some, None, length, refl, arith}
use Rattle.std.proofs.Math.Nat.{le_refl}
use Rattle.plant_laws.specs.plant_model.Types.{As, Peer, Outside, Inner, Asked, Message, NetworkParts}
use Rattle.disclosure.specs.Shown.{open_of}
use Rattle.pcep_subobjects.specs.Subobjects.{AreOctets}
use Rattle.pcep_messages.specs.declared.message.Message.TheVariants as messages
use Rattle.request_table.specs.Pending.{same_peer}
use Rattle.plant_text.specs.Names.{same_as}
use Rattle.plant_laws.specs.plant_model.declared.output.Output.{Output}
use Rattle.plant_laws.specs.plant_model.Names.{set_pair}
use Rattle.plant_laws.specs.plant_model.Wire.{Bytes, Codec}
use Rattle.plant_laws.specs.plant_model.State.{State}
use Rattle.plant_laws.specs.plant_model.Deeds.{put_to, put, puts}
use Rattle.plant_laws.specs.plant_model.Plant.{Pin, Segment}
use Rattle.plant_laws.specs.Sending.{AreAll}
use Rattle.plant_laws.specs.Transcript.{put_into, count_asks, one_if}
use Rattle.plant_laws.proofs.Once.Handing.{IsAsk}
use Rattle.plant_laws.proofs.Numbering.Sends.{NoneAsks}
use Rattle.run_laws.proofs.OctetLemmas.Heavy.{Queues, read_heavy, queue_heavy, heavy_append, grid, grid_more}

abbrev pub Core : Type 0
Core = State Pin Segment

-- ---- how many requests there are

one_counted : (m : Message) (ms : List Message) → count_asks (m ∷ ms) ≤ 1 + count_asks ms
one_counted (messages.PcReq asked) ms = omega arith
one_counted (messages.PcRep replies) ms = omega arith
one_counted (messages.PcNtf notices) ms = omega arith
one_counted (messages.PcErr reports) ms = omega arith
one_counted (messages.Open body) ms = omega arith
one_counted messages.Keepalive ms = omega arith
one_counted (messages.Close why) ms = omega arith
one_counted (messages.Other kind) ms = omega arith

not_counted : (m : Message) (ms : List Message) → (IsAsk m → ⊥) → count_asks (m ∷ ms) ≡ count_asks ms
not_counted (messages.PcReq asked) ms never = absurd (never tt)
not_counted (messages.PcRep replies) ms never = refl
not_counted (messages.PcNtf notices) ms never = refl
not_counted (messages.PcErr reports) ms never = refl
not_counted (messages.Open body) ms never = refl
not_counted messages.Keepalive ms never = refl
not_counted (messages.Close why) ms never = refl
not_counted (messages.Other kind) ms never = refl

none_counted : (b : As) (os : List Output) → NoneAsks os → count_asks (put_into b os) ≡ 0
none_counted b [] none = refl
none_counted b (o ∷ os) none = go (same_peer o.to (Inner b)) (none_counted b os none.1)
  where
    go : (t : Bool) → count_asks (put_into b os) ≡ 0 → count_asks (cond t (o.message ∷ put_into b os) (put_into b os)) ≡ 0
    go true more = not_counted o.message (put_into b os) none.0 ∙ more
    go false more = more

-- the requests among what an end sends, or nothing
abbrev pub asked_by : Bool → As → List Output → ℕ
asked_by t b os = count_asks (put_into b (cond t os []))

none_asked : (t : Bool) (b : As) (os : List Output) → NoneAsks os → asked_by t b os ≡ 0
none_asked true b os none = none_counted b os none
none_asked false b os none = refl

-- one output is one request at most, where it goes there
pub one_asked : (t : Bool) (b : As) (to : Peer) (m : Message) → asked_by t b (record { to = to; message = m } ∷ []) ≤ one_if (cond t (same_peer to (Inner b)) false)
one_asked true b to m = go (same_peer to (Inner b))
  where
    go : (u : Bool) → count_asks (cond u (m ∷ []) []) ≤ one_if u
    go true = one_counted m []
    go false = omega arith
one_asked false b to m = omega arith

module _ (c : Codec) (n : NetworkParts) where
  -- ---- what queues hold

  -- what is read as requests came as octets, and has one
  abbrev pub IsFair : Bytes → Type 0
  IsFair bytes = (asked : List Asked) → c.read bytes ≡ Some (messages.PcReq asked) → AreOctets bytes × (length asked ≡ 1)

  abbrev pub AreFair : List Bytes → Type 0
  AreFair [] = Unit {0}
  AreFair (bytes ∷ rest) = IsFair bytes × AreFair rest

  abbrev pub QueuesFair : Core → Type 0
  QueuesFair s = (a b : As) → AreFair (s.queues a b)

  fair_append : (q : List Bytes) (bytes : Bytes) → AreFair q → IsFair bytes → AreFair (q ++ bytes ∷ [])
  fair_append [] bytes fair one = (one, tt)
  fair_append (first ∷ q) bytes fair one = (fair.0, fair_append q bytes fair.1 one)

  pub set_fair : (a b : As) (l : List Bytes) (q : Queues) → AreFair l → ((a b : As) → AreFair (q a b)) → (a' b' : As) → AreFair (set_pair a b l q a' b')
  set_fair a b l q new old a' b' = go (same_as a a') (same_as b b')
    where
      go : (t u : Bool) → AreFair (cond t (cond u l (q a' b')) (q a' b'))
      go true true = new
      go true false = old a' b'
      go false u = old a' b'

  to_fair : (at : As) (m : Message) (s : Core) (to : Peer) → IsFair (c.text m) → QueuesFair s → QueuesFair (put_to Pin Segment c n open_of at (c.text m) s to)
  to_fair at m s (Outside i) one fair = fair
  to_fair at m s (Inner b) one fair = set_fair at b (s.queues at b ++ c.text m ∷ []) s.queues (fair_append (s.queues at b) (c.text m) (fair at b) one) fair

  -- a request alone is read as one
  abbrev pub IsMeant : Message → Type 0
  IsMeant m = (asked : List Asked) → c.read (c.text m) ≡ Some (messages.PcReq asked) → IsAsk m

  quiets_fair : (at : As) (os : List Output) (s : Core) → AreAll IsMeant os → NoneAsks os → QueuesFair s → QueuesFair (puts Pin Segment c n open_of at os s)
  quiets_fair at [] s meant none fair = fair
  quiets_fair at (o ∷ os) s meant none fair =
      quiets_fair at os (put Pin Segment c n open_of at o s) meant.1 none.1 (to_fair at o.message s o.to (λ asked is. absurd (none.0 (meant.0 asked is))) fair)

  -- ---- how heavy they become, for requests from x to y

  module _ (x y : As) where
    -- where it goes to an inner peer it is at most so heavy
    abbrev IsLight : Message → Peer → ℕ → Type 0
    IsLight m to w = (b : As) → to ≡ Inner b → read_heavy x y c b (c.read (c.text m)) ≤ w

    to_heavy : (at : As) (m : Message) (s : Core) (to : Peer) (w : ℕ) → IsLight m to w → (k : ℕ) → grid x y c (put_to Pin Segment c n open_of at (c.text m) s to).queues k ≤ grid x y c s.queues k + w
    to_heavy at m s (Outside i) w light k = plain (grid x y c s.queues k)
      where
        plain : (g : ℕ) → g ≤ g + w
        plain g = omega arith
    to_heavy at m s (Inner b) w light k =
        grid_more x y c at b (s.queues at b ++ c.text m ∷ []) s.queues w
        (plain (queue_heavy x y c b (s.queues at b ++ c.text m ∷ [])) (queue_heavy x y c b (s.queues at b)) (read_heavy x y c b (c.read (c.text m))) (heavy_append x y c b (s.queues at b) (c.text m)) (light b refl)) k
      where
        plain : (q' q r : ℕ) → q' ≡ q + r → r ≤ w → q' ≤ q + w
        plain q' q r one two = omega (arith, one, two)

    quiet_light : (m : Message) (to : Peer) → IsMeant m → (IsAsk m → ⊥) → IsLight m to 0
    quiet_light m to meant never b is = go (c.read (c.text m)) (λ asked e. never (meant asked e))
      where
        go : (o : Option Message) → ((asked : List Asked) → o ≡ Some (messages.PcReq asked) → ⊥) → read_heavy x y c b o ≤ 0
        go None none = omega arith
        go (Some (messages.PcReq asked)) none = absurd (none asked refl)
        go (Some (messages.PcRep replies)) none = omega arith
        go (Some (messages.PcNtf notices)) none = omega arith
        go (Some (messages.PcErr reports)) none = omega arith
        go (Some (messages.Open body)) none = omega arith
        go (Some messages.Keepalive) none = omega arith
        go (Some (messages.Close why)) none = omega arith
        go (Some (messages.Other kind)) none = omega arith

    quiets_light : (at : As) (os : List Output) (s : Core) → AreAll IsMeant os → NoneAsks os → (k : ℕ) → grid x y c (puts Pin Segment c n open_of at os s).queues k ≤ grid x y c s.queues k
    quiets_light at [] s meant none k = le_refl (grid x y c s.queues k)
    quiets_light at (o ∷ os) s meant none k =
        plain (grid x y c (puts Pin Segment c n open_of at (o ∷ os) s).queues k) (grid x y c (put Pin Segment c n open_of at o s).queues k) (grid x y c s.queues k)
        (quiets_light at os (put Pin Segment c n open_of at o s) meant.1 none.1 k)
        (to_heavy at o.message s o.to 0 (quiet_light o.message o.to meant.0 none.0) k)
      where
        plain : (g'' g' g : ℕ) → g'' ≤ g' → g' ≤ g + 0 → g'' ≤ g
        plain g'' g' g one two = omega (arith, one, two)

    -- What an end sends: the queues stay fair, and with the requests from x to y they become at most so much heavier.
    pub record Passes (at : As) (os : List Output) (w : ℕ) : Type 0 where
      pub fair : (s : Core) → QueuesFair s → QueuesFair (puts Pin Segment c n open_of at os s)
      pub few : (s : Core) (k : ℕ) → asked_by (same_as at x) y os + grid x y c (puts Pin Segment c n open_of at os s).queues k ≤ grid x y c s.queues k + w

    pub passes_none : (at : As) (os : List Output) → AreAll IsMeant os → NoneAsks os → Passes at os 0
    passes_none at os meant none = record {
      fair = λ s fair. quiets_fair at os s meant none fair;
      few = λ s k. plain (asked_by (same_as at x) y os) (grid x y c (puts Pin Segment c n open_of at os s).queues k) (grid x y c s.queues k) (none_asked (same_as at x) y os none) (quiets_light at os s meant none k);
    }
      where
        plain : (a g' g : ℕ) → a ≡ 0 → g' ≤ g → a + g' ≤ g + 0
        plain a g' g one two = omega (arith, one, two)

    pub passes_one : (at : As) (o : Output) (v w : ℕ) → asked_by (same_as at x) y (o ∷ []) ≤ v → IsFair (c.text o.message) → ((b : As) → o.to ≡ Inner b → read_heavy x y c b (c.read (c.text o.message)) ≤ w) → Passes at (o ∷ []) (v + w)
    passes_one at o v w asked one light = record {
      fair = λ s fair. to_fair at o.message s o.to one fair;
      few = λ s k. plain (asked_by (same_as at x) y (o ∷ [])) (grid x y c (put Pin Segment c n open_of at o s).queues k) (grid x y c s.queues k) asked (to_heavy at o.message s o.to w light k);
    }
      where
        plain : (a g' g : ℕ) → a ≤ v → g' ≤ g + w → a + g' ≤ g + (v + w)
        plain a g' g one' two = omega (arith, one', two)

    pub passes_more : (at : As) (os : List Output) (v w : ℕ) → v ≤ w → Passes at os v → Passes at os w
    passes_more at os v w le p = record {
      fair = p.fair;
      few = λ s k. plain (asked_by (same_as at x) y os) (grid x y c (puts Pin Segment c n open_of at os s).queues k) (grid x y c s.queues k) (p.few s k);
    }
      where
        plain : (a g' g : ℕ) → a + g' ≤ g + v → a + g' ≤ g + w
        plain a g' g one = omega (arith, one, le)
