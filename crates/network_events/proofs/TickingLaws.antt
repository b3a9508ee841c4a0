-- The inputs of a tick one after the other, with the words that they use.
use Rattle.std.proofs.Common.{◌≡◌, ◌≤◌, ◌<◌, ◌%◌, ℕ, zero, suc, ◌+◌, ◌*◌, Bool, true, false, cond, Some, None, List, [], ◌∷◌, ◌++◌, length, take, refl, ap, sym, subst, ◌∙◌, arith}
use Rattle.std.specs.Prelude.{slice_get, nat_lt}
use Rattle.std.proofs.lemmas.Bool.{eqb-false}
use Rattle.std.proofs.Math.Nat.{mod-eq_of_lt}
use Rattle.std.proofs.lemmas.Bool.Decides.{nat_tests}
use Rattle.pce_common.specs.plant_model.Types.{As, Peer, Tick, Hop, NetworkParts}
use Rattle.pcep_session.specs.declared.session.Input.TheVariants as input
use Rattle.plant_text.specs.Names.{same_as, same_link}
use Rattle.plant_text.specs.Settings.{Adjacency, before_adjacency, children, has_adjacency, insert_adjacency, adjacency, adjacencies, sorted, upward}
use Rattle.network_links.specs.Adjacencies.{adjacency_of}
use Rattle.pce_common.specs.plant_model.RealWire.{wire}
use Rattle.pce_common.specs.plant_model.Deeds as deeds
use Rattle.pce_common.specs.plant_model.Deeds.{Going}
use Rattle.pce_common.specs.Membership.{is_member}
use Rattle.network_links.specs.Flow.{Flow}
use Rattle.network_events.specs.Passing.{IsOf}
use Rattle.network_events.specs.Peers.{IsEnd, IsLinkEnd, input_at}
use Rattle.network_events.specs.Roomy.{KeepsOn}
use Rattle.network_events.specs.Standing.{IsAt, Here, Goes}
use Rattle.network_events.specs.Using.{IsOn, IsUnderWay, Uses}
use Rattle.network_events.proofs.GoLaws.{goes_then, self}
use Rattle.network_events.proofs.RoomyNeeds.{apart_back, adjacency_back}
use Rattle.network_events.proofs.RoomySteps.{keeps_fewer}
use Rattle.network_events.proofs.RoomyInputs.{tick_keeps}
use Rattle.network_events.proofs.TickLaws.{peers_to, peers_all}

pub goes_of : {P : Type 0} {S : Type 0} {step : NetworkParts → Going P S → Going P S} {a b : Here P S} → Goes step a b → IsOf a.network a.flow → IsOf a.network b.flow
goes_of goes of = record { adjacencies_are = goes.adjacencies ∙ of.adjacencies_are; peers_are = goes.peers ∙ of.peers_are }

module _ {P : Type 0} {S : Type 0} where
  pub uses_then : (f h : NetworkParts → Going P S → Going P S) (v w : ℕ) (a b c : Here P S) → Uses f v a b → Uses h w b c → Uses (λ n g. h n (f n g)) (v + w) a c
  uses_then f h v w a b c x y = record { goes = goes_then f h a b c x.goes y.goes; keeps = keeps }
    where
      keeps : (g : Going P S) → IsAt g a.seen a.flow → (own : ℕ) → KeepsOn ((v + w) + own) a.network a.seen a.flow → KeepsOn own a.network c.seen c.flow
      keeps g is own all =
          let one = x.keeps g is (w + own) (keeps_fewer a.network (v + (w + own)) ((v + w) + own) a.seen a.flow (omega arith) all) in
          let on = subst (λ (n : NetworkParts). KeepsOn (w + own) n b.seen b.flow) (sym x.goes.network) one in
          subst (λ (n : NetworkParts). KeepsOn own n c.seen c.flow) x.goes.network (y.keeps (f a.network g) (x.goes.goes g is) own on)

  -- the same deed, said otherwise
  pub uses_by : (f h : NetworkParts → Going P S → Going P S) (v w : ℕ) (a b : Here P S) → ((g : Going P S) → f a.network g ≡ h a.network g) → v ≤ w → Uses f v a b → Uses h w a b
  uses_by f h v w a b same some x = record {
    goes = record {
      network = x.goes.network;
      lost = x.goes.lost;
      adjacencies = x.goes.adjacencies;
      peers = x.goes.peers;
      room = x.goes.room;
      goes = λ g is. subst (λ (y : Going P S). IsAt y b.seen b.flow) (same g) (x.goes.goes g is);
    };
    keeps = λ g is own keeps. x.keeps g is own (keeps_fewer a.network (v + own) (w + own) a.seen a.flow (omega (arith, some)) keeps);
  }

  -- there is room for the words that come next
  pub room_left : {f : NetworkParts → Going P S → Going P S} {a b : Here P S} (v w all : ℕ) → Uses f v a b → IsOn a.seen a.flow → v + w ≤ all → KeepsOn all a.network a.seen a.flow → KeepsOn w b.network b.seen b.flow
  room_left {a = a} {b = b} v w all x on some keeps =
      subst (λ (n : NetworkParts). KeepsOn w n b.seen b.flow) (sym x.goes.network) (x.keeps on.going on.at w (keeps_fewer a.network (v + w) all a.seen a.flow some keeps))

  pub goes_on : {f : NetworkParts → Going P S → Going P S} {a b : Here P S} → Goes f a b → IsOn a.seen a.flow → IsOn b.seen b.flow
  goes_on {f = f} {a = a} x on = record { going = f a.network on.going; at = x.goes on.going on.at }

  -- and all else that the next deed needs
  pub under_way : {f : NetworkParts → Going P S → Going P S} {a b : Here P S} (v w all : ℕ) → Uses f v a b → v + w ≤ all → IsUnderWay all a → IsUnderWay w b
  under_way {b = b} v w all x some under = record {
    of = subst (λ (n : NetworkParts). IsOf n b.flow) (sym x.goes.network) (goes_of x.goes under.of);
    none = x.goes.lost under.none;
    on = goes_on x.goes under.on;
    keeps = room_left v w all x under.on some under.keeps;
  }

  module _ (show : S → List Hop) (now : Tick) where
    -- a tick to the session of a member with a peer
    pub session_uses : (at : As) (to : Peer) (a b : Here P S) → IsEnd a.network a.flow at to → is_member a.network at ≡ true → IsOf a.network a.flow → Goes (λ n. input_at P S n show at to (input.Tick now)) a b → Uses (λ n. input_at P S n show at to (input.Tick now)) 2 a b
    session_uses at to a b end member of goes = record {
      goes = goes;
      keeps = λ g is own keeps. tick_keeps show a.network own (2 + own) at to now g b.network a.seen b.seen a.lost b.lost a.flow b.flow (omega arith) end member of goes is keeps;
    }

    -- ---- outside peers

    pub peer_more : (k : ℕ) (a b c : Here P S) → Uses (λ n. peers_to show n now k) (2 * k) a b → Uses (λ n. deeds.outside_input P S wire n show k (input.Tick now)) 2 b c → Uses (λ n. peers_to show n now (suc k)) (2 * suc k) a c
    peer_more k a b c x y =
        uses_by (λ n g. deeds.outside_input P S wire n show k (input.Tick now) (peers_to show n now k g)) (λ n. peers_to show n now (suc k)) (2 * k + 2) (2 * suc k) a c (λ g. refl) (omega arith)
        (uses_then (λ n. peers_to show n now k) (λ n. deeds.outside_input P S wire n show k (input.Tick now)) (2 * k) 2 a b c x y)

    pub peers_end : (k : ℕ) (a b : Here P S) → k ≡ length a.network.peers → Uses (λ n. peers_to show n now k) (2 * k) a b → Uses (λ n. deeds.tick_outside P S wire n show 0 n.peers now) (2 * length a.network.peers) a b
    peers_end k a b all x =
        uses_by (λ n. peers_to show n now k) (λ n. deeds.tick_outside P S wire n show 0 n.peers now) (2 * k) (2 * length a.network.peers) a b
        (λ g. ap (λ (j : ℕ). peers_to show a.network now j g) all ∙ sym (peers_all show a.network now a.network.peers g)) (omega (arith, all)) x

    -- ---- links

    -- a tick to one link, the lower end first
    abbrev pub adjacency_tick : Adjacency → NetworkParts → Going P S → Going P S
    adjacency_tick x n g = deeds.inner_input P S wire n show x x.upper x.lower (input.Tick now) (deeds.inner_input P S wire n show x x.lower x.upper (input.Tick now) g)

    adjacency_more : (n : NetworkParts) (xs : List Adjacency) (k : ℕ) (x : Adjacency) (g : Going P S) → slice_get xs k ≡ Some x →
        adjacency_tick x n (deeds.tick_adjacencies P S wire n show (take k xs) now g) ≡ deeds.tick_adjacencies P S wire n show (take (suc k) xs) now g
    adjacency_more n [] k x g is = absurd (let none : None ≡ Some x = is in cc)
    adjacency_more n (y ∷ xs) zero x g is =
        let one : Some y ≡ Some x = is in
        let same : y ≡ x = cc in
        ap (λ (z : Adjacency). adjacency_tick z n g) (sym same)
    adjacency_more n (y ∷ xs) (suc k) x g is = adjacency_more n xs k x (adjacency_tick y n g) is

    pub adjacencies_more : (xs : List Adjacency) (k : ℕ) (x : Adjacency) (a b c : Here P S) → slice_get xs k ≡ Some x → Uses (λ n. deeds.tick_adjacencies P S wire n show (take k xs) now) (4 * k) a b → Uses (adjacency_tick x) 4 b c →
        Uses (λ n. deeds.tick_adjacencies P S wire n show (take (suc k) xs) now) (4 * suc k) a c
    adjacencies_more xs k x a b c is one two =
        uses_by (λ n g. adjacency_tick x n (deeds.tick_adjacencies P S wire n show (take k xs) now g)) (λ n. deeds.tick_adjacencies P S wire n show (take (suc k) xs) now) (4 * k + 4) (4 * suc k) a c
        (λ g. adjacency_more a.network xs k x g is) (omega arith)
        (uses_then (λ n. deeds.tick_adjacencies P S wire n show (take k xs) now) (adjacency_tick x) (4 * k) 4 a b c one two)

-- a link of the list is between its ends
pub adjacency_found : (xs : List Adjacency) (k : ℕ) (x : Adjacency) → slice_get xs k ≡ Some x → has_adjacency x.lower x.upper xs ≡ true
adjacency_found [] k x is = absurd (let none : None ≡ Some x = is in cc)
adjacency_found (y ∷ xs) zero x is =
    let one : Some y ≡ Some x = is in
    let same : y ≡ x = cc in
    subst (λ (z : Adjacency). cond (same_link z.lower z.upper x.lower x.upper) true (has_adjacency x.lower x.upper xs) ≡ true) (sym same)
    (ap (λ (b : Bool). cond (cond b (same_as x.upper x.upper) (cond (same_as x.lower x.upper) (same_as x.upper x.lower) false)) true (has_adjacency x.lower x.upper xs)) (self x.lower.0)
    ∙ ap (λ (b : Bool). cond b true (has_adjacency x.lower x.upper xs)) (self x.upper.0))
adjacency_found (y ∷ xs) (suc k) x is = go (same_link y.lower y.upper x.lower x.upper) (adjacency_found xs k x is)
  where
    go : (b : Bool) → has_adjacency x.lower x.upper xs ≡ true → cond b true (has_adjacency x.lower x.upper xs) ≡ true
    go true e = refl
    go false e = e

-- ---- what a loop knows from turn to turn

module _ {P : Type 0} {S : Type 0} where
  -- so many of all have been told
  pub record Until (step : NetworkParts → Going P S → Going P S) (words k all : ℕ) (old new : Here P S) : Type 0 where
    pub within : k ≤ all
    pub uses : Uses step words old new

  -- the link at this place is one of the settings, which never change
  pub adjacency_here : {step : NetworkParts → Going P S → Going P S} {a b : Here P S} (k : ℕ) (x : Adjacency) → Goes step a b → IsOf a.network a.flow → Some x ≡ slice_get b.flow.adjacencies k → slice_get (adjacencies a.network) k ≡ Some x
  adjacency_here k x goes of is = ap (λ (ys : List Adjacency). slice_get ys k) (sym (goes.adjacencies ∙ of.adjacencies_are)) ∙ sym is

  pub adjacency_linked : {step : NetworkParts → Going P S → Going P S} {a b : Here P S} (k : ℕ) (p : As × As) → Goes step a b → IsOf a.network a.flow → Some (adjacency_of p) ≡ slice_get b.flow.adjacencies k → has_adjacency p.0 p.1 (adjacencies a.network) ≡ true
  adjacency_linked {a = a} k p goes of is = adjacency_found (adjacencies a.network) k (adjacency_of p) (adjacency_here k (adjacency_of p) goes of is)

-- the count of peers is one of 32 bits
pub peers_fit : (n : NetworkParts) (f : Flow) (count : ℕ) → IsOf n f → count ≡ f.peers → length n.peers < 4294967296 → count % 4294967296 ≡ count
peers_fit n f count of count_is few = mod-eq_of_lt (omega (arith, few, of.peers_are, count_is))

-- ---- both ends of a link

-- each link of the settings has its lower end first
abbrev AreRising : List Adjacency → Type 0
AreRising [] = Unit {0}
AreRising (x ∷ xs) = (x.lower.0 ≤ x.upper.0) × AreRising xs

rising_adjacency : (a b : As) → (adjacency a b).lower.0 ≤ (adjacency a b).upper.0
rising_adjacency a b = go (nat_lt b.0 a.0) refl
  where
    go : (c : Bool) → nat_lt b.0 a.0 ≡ c → (cond {A = Adjacency} c (record { lower = b; upper = a }) (record { lower = a; upper = b })).lower.0 ≤ (cond {A = Adjacency} c (record { lower = b; upper = a }) (record { lower = a; upper = b })).upper.0
    go true is = grind (arith, nat_tests)
    go false is = grind (arith, nat_tests)

rising_insert : (x : Adjacency) (xs : List Adjacency) → x.lower.0 ≤ x.upper.0 → AreRising xs → AreRising (insert_adjacency x xs)
rising_insert x [] one rest = (one, tt)
rising_insert x (y ∷ ys) one rest = go (before_adjacency x y) (rising_insert x ys one rest.1)
  where
    go : (c : Bool) → AreRising (insert_adjacency x ys) → AreRising (cond c (x ∷ y ∷ ys) (y ∷ insert_adjacency x ys))
    go true more = (one, rest)
    go false more = (rest.0, more)

rising_sorted : (ps : List (As × As)) → AreRising (sorted ps)
rising_sorted [] = tt
rising_sorted (p ∷ ps) = rising_insert (adjacency p.0 p.1) (sorted ps) (rising_adjacency p.0 p.1) (rising_sorted ps)

rising_upward : (ds : List As) (xs : List Adjacency) → AreRising xs → AreRising (upward ds ++ xs)
rising_upward [] xs rest = rest
rising_upward (d ∷ ds) xs rest = (omega arith, rising_upward ds xs rest)

rising_at : (xs : List Adjacency) (k : ℕ) (x : Adjacency) → AreRising xs → slice_get xs k ≡ Some x → x.lower.0 ≤ x.upper.0
rising_at [] k x all is = cc
rising_at (y ∷ xs) zero x all is = let same : y ≡ x = cc in subst (λ (z : Adjacency). z.lower.0 ≤ z.upper.0) same all.0
rising_at (y ∷ xs) (suc k) x all is = rising_at xs k x all.1 is

pub adjacency_rises : (n : NetworkParts) (k : ℕ) (x : Adjacency) → slice_get (adjacencies n) k ≡ Some x → same_as x.lower x.upper ≡ false → x.lower.0 < x.upper.0
adjacency_rises n k x is apart =
    let most = rising_at (adjacencies n) k x (rising_upward (children n) (sorted n.links) (rising_sorted n.links)) is in
    let differ = eqb-false x.lower.0 x.upper.0 apart in
    grind (arith, nat_tests)

-- it is the same from either end
pub adjacency_ends : (a b : As) → a.0 < b.0 → (adjacency a b ≡ record { lower = a; upper = b }) × (adjacency b a ≡ record { lower = a; upper = b })
adjacency_ends a b rises =
    let above : nat_lt b.0 a.0 ≡ false = grind (arith, nat_tests) in
    let below : nat_lt a.0 b.0 ≡ true = grind (arith, nat_tests) in
    (ap (λ (c : Bool). cond {A = Adjacency} c (record { lower = b; upper = a }) (record { lower = a; upper = b })) above, ap (λ (c : Bool). cond {A = Adjacency} c (record { lower = a; upper = b }) (record { lower = b; upper = a })) below)

pub both_ends : (n : NetworkParts) (f : Flow) (a b : As) → is_member n a ≡ true → is_member n b ≡ true → same_as a b ≡ false → has_adjacency a b (adjacencies n) ≡ true → IsOf n f → IsLinkEnd n f a b × IsLinkEnd n f b a
both_ends n f a b lower upper apart linked of = (
  record { other = upper; apart = apart_back a b apart; linked = ap (has_adjacency a b) of.adjacencies_are ∙ linked },
  record { other = lower; apart = apart; linked = ap (has_adjacency b a) of.adjacencies_are ∙ adjacency_back a b (adjacencies n) linked },
)
