-- A network that begins: room that grew is no deed, links begin one after the other, and then there is room as between events.
use Rattle.std.proofs.Common.{◌≡◌, ◌⊎◌, ◌≤◌, ◌<◌, ℕ, zero, suc, ◌*◌, Bool, true, false, cond, Some, None, List, [], ◌∷◌, length, take, refl, ap, sym, subst, ◌∙◌, arith, inl, inr}
use Rattle.std.specs.Prelude.{slice_get}
use Rattle.std.proofs.lemmas.Bool.{cases_Bool, cases_lt}
use Rattle.pce_common.specs.plant_model.Types.{As, Peer, Outside, Inner, Hop, NetworkParts}
use Rattle.plant_queues.specs.Messages.{total}
use Rattle.plant_queues.specs.Sents.{size_of}
use Rattle.plant_text.specs.Names.{same_as, same_link}
use Rattle.plant_text.specs.Settings.{Adjacency, has_adjacency, adjacencies}
use Rattle.pce_common.specs.plant_model.declared.output.Lost.{Lost}
use Rattle.pce_common.specs.plant_model.Wire.{Bytes}
use Rattle.pce_common.specs.plant_model.RealWire.{wire}
use Rattle.pce_common.specs.plant_model.Deeds as deeds
use Rattle.pce_common.specs.plant_model.Deeds.{Going}
use Rattle.pce_common.specs.plant_model.Events as events
use Rattle.network_links.specs.Flow.{Begins, Flow, GrowsAt, GrowsSaid, IsBare, KeepsRoomAt, queue_at}
use Rattle.network_events.specs.Accounts.{Accounts, count_into, bytes_into, has_queue}
use Rattle.pce_common.specs.Membership.{Membership}
use Rattle.network_events.specs.Giving.{CoversWords, OnlyGrows, own_words}
use Rattle.pce_common.specs.Owed.{owed}
use Rattle.network_events.specs.Rooms.{IsRoomy, is_live, is_talking, own_most}
use Rattle.network_events.specs.Standing.{Goes, here_of, state_of}
use Rattle.network_events.proofs.GoLaws.{as_is, goes_then}
use Rattle.network_events.proofs.LetterLaws.{grows_at, grows_said, grows_then, keeps_grown}
use Rattle.network_events.proofs.LinkLaws.{goes_begin}

queue_grown : (at : As) (to : Peer) (f f' : Flow) → OnlyGrows f f' → queue_at at to f' ≡ queue_at at to f
queue_grown at (Outside i) f f' x = ap (queue_at at (Outside i)) x.same
queue_grown at (Inner b) f f' x = ap (queue_at at (Inner b)) x.same

queues_grown : (to : Peer) (f f' : Flow) → OnlyGrows f f' → has_queue to f' ≡ has_queue to f
queues_grown (Outside i) f f' x = ap (has_queue (Outside i)) x.same
queues_grown (Inner b) f f' x = refl

pub grown_accounts : (f f' : Flow) → OnlyGrows f f' → Accounts f f'
grown_accounts f f' x = record {
  messages = λ at to. omega (arith, (x.there at to).messages, ap (λ (g : Flow). count_into at to g.said) x.same);
  bytes = λ at to. omega (arith, (x.there at to).bytes, ap (λ (g : Flow). bytes_into at to g.said) x.same);
  there = λ to is. queues_grown to f f' x ∙ is;
  messages_in_all = λ at to is. omega (arith, (x.there at to).messages, ap length (queue_grown at to f f' x));
  bytes_in_all = λ at to is. omega (arith, (x.there at to).bytes, ap (total (λ (m : Bytes). length m)) (queue_grown at to f f' x));
  said = omega (arith, x.said.messages, ap (λ (g : Flow). length g.said) x.same);
  said_bytes = omega (arith, x.said.bytes, ap (λ (g : Flow). total size_of g.said) x.same);
}

module _ {P : Type 0} {S : Type 0} (show : S → List Hop) (n : NetworkParts) (ms : Membership P S) (lost : As → List Lost) where
  -- room that grew is no deed
  pub goes_grown : (f f' : Flow) → OnlyGrows f f' → Goes (λ k g. g) (here_of n ms lost f) (here_of n ms lost f')
  goes_grown f f' x = record {
    network = refl;
    lost = λ none. none;
    adjacencies = ap (λ (g : Flow). g.adjacencies) x.same;
    peers = ap (λ (g : Flow). g.peers) x.same;
    room = grown_accounts f f' x;
    goes = λ g is. record { state = ap (state_of ms) x.same ∙ is.state; said = ap (λ (h : Flow). h.said) x.same ∙ is.said };
  }

  -- an end begins once there is room for its Open
  pub goes_begin_one : (at to : As) (f f1 f2 f3 : Flow) → GrowsAt at (Inner to) f f1 → GrowsSaid f1 f2 → Begins at to 0 f2 f3 →
      Goes (λ k. deeds.begin_end P S wire k show 0 at to) (here_of n ms lost f) (here_of n ms lost f3)
  goes_begin_one at to f f1 f2 f3 there said begins =
      let grown = goes_grown f f2 (grows_then f f1 f2 (grows_at at (Inner to) f f1 there) (grows_said f1 f2 said)) in
      goes_then (λ k g. g) (λ k. deeds.begin_end P S wire k show 0 at to) (here_of n ms lost f) (here_of n ms lost f2) (here_of n ms lost f3) grown (goes_begin show n ms lost at to 0 f2 f3 begins)

  pub begin_more : (xs : List Adjacency) (k : ℕ) (x : Adjacency) (g : Going P S) → slice_get xs k ≡ Some x →
      deeds.begin_adjacency P S wire n show 0 x (events.begin_adjacencies P S wire n show (take k xs) g) ≡ events.begin_adjacencies P S wire n show (take (suc k) xs) g
  begin_more [] k x g is = absurd (let none : None ≡ Some x = is in cc)
  begin_more (y ∷ xs) zero x g is =
      let one : Some y ≡ Some x = is in
      let same : y ≡ x = cc in
      ap (λ (z : Adjacency). deeds.begin_adjacency P S wire n show 0 z g) (sym same)
  begin_more (y ∷ xs) (suc k) x g is = begin_more xs k x (deeds.begin_adjacency P S wire n show 0 y g) is

  -- it changes neither the clock nor an outside peer
  pub begun_clock : (xs : List Adjacency) (g : Going P S) → (events.begin_adjacencies P S wire n show xs g).state.clock ≡ g.state.clock
  begun_clock [] g = refl
  begun_clock (x ∷ xs) g = begun_clock xs (deeds.begin_adjacency P S wire n show 0 x g)

  pub begun_accesses : (xs : List Adjacency) (g : Going P S) → (events.begin_adjacencies P S wire n show xs g).state.accesses ≡ g.state.accesses
  begun_accesses [] g = refl
  begun_accesses (x ∷ xs) g = begun_accesses xs (deeds.begin_adjacency P S wire n show 0 x g)

-- ---- room that links keep

-- both queues of the links so far keep room
pub record KeptUpTo (k : ℕ) (start now : Flow) : Type 0 where
  pub grows : OnlyGrows start now
  pub lower : (j : ℕ) (x : Adjacency) → j < k → slice_get start.adjacencies j ≡ Some x → KeepsRoomAt x.lower (Inner x.upper) 0 0 now
  pub upper : (j : ℕ) (x : Adjacency) → j < k → slice_get start.adjacencies j ≡ Some x → KeepsRoomAt x.upper (Inner x.lower) 0 0 now

-- one more link keeps it
pub kept_more : (k : ℕ) (x : Adjacency) (start now one two : Flow) → KeptUpTo k start now → slice_get start.adjacencies k ≡ Some x →
    GrowsAt x.lower (Inner x.upper) now one → KeepsRoomAt x.lower (Inner x.upper) 0 0 one → GrowsAt x.upper (Inner x.lower) one two → KeepsRoomAt x.upper (Inner x.lower) 0 0 two → KeptUpTo (suc k) start two
kept_more k x start now one two kept at first first_keeps second second_keeps = record {
  grows = grows_then start now two kept.grows on;
  lower = λ j y below is. elim (split j below) [ inl less ↦ keeps_grown y.lower (Inner y.upper) 0 0 now two on (kept.lower j y less is) | inr same ↦ subst (λ (z : Adjacency). KeepsRoomAt z.lower (Inner z.upper) 0 0 two) (one_adjacency j y same is) (keeps_grown x.lower (Inner x.upper) 0 0 one two last first_keeps) ];
  upper = λ j y below is. elim (split j below) [ inl less ↦ keeps_grown y.upper (Inner y.lower) 0 0 now two on (kept.upper j y less is) | inr same ↦ subst (λ (z : Adjacency). KeepsRoomAt z.upper (Inner z.lower) 0 0 two) (one_adjacency j y same is) second_keeps ];
}
  where
    last : OnlyGrows one two
    last = grows_at x.upper (Inner x.lower) one two second

    on : OnlyGrows now two
    on = grows_then now one two (grows_at x.lower (Inner x.upper) now one first) last

    split : (j : ℕ) → j < suc k → (j < k) ⊎ (j ≡ k)
    split j below = elim (cases_lt j k) [ inl less ↦ inl less | inr past ↦ inr (omega (arith, below, past)) ]

    one_adjacency : (j : ℕ) (y : Adjacency) → j ≡ k → slice_get start.adjacencies j ≡ Some y → x ≡ y
    one_adjacency j y same is =
        let both : Some x ≡ Some y = sym at ∙ ap (slice_get start.adjacencies) (sym same) ∙ is in
        cc

link_found : (a b : As) (xs : List Adjacency) → has_adjacency a b xs ≡ true → (j : ℕ) × (x : Adjacency) × (j < length xs) × (slice_get xs j ≡ Some x) × (same_link x.lower x.upper a b ≡ true)
link_found a b [] is = absurd (let both : false ≡ true = is in cc)
link_found a b (y ∷ xs) is = elim (cases_Bool (same_link y.lower y.upper a b)) [
  | inl here ↦ (0, y, omega arith, refl, here)
  | inr other ↦ let rest = link_found a b xs (rw other at is) in (suc rest.0, rest.1, omega (arith, rest.2), rest.3, rest.4)
]

either_way : (l u a b : As) → same_link l u a b ≡ true → ((l ≡ a) × (u ≡ b)) ⊎ ((l ≡ b) × (u ≡ a))
either_way l u a b is = go (same_as l a) (same_as u b) (same_as l b) (same_as u a) refl refl refl refl is
  where
    go : (p q r s : Bool) → same_as l a ≡ p → same_as u b ≡ q → same_as l b ≡ r → same_as u a ≡ s → cond p q (cond r s false) ≡ true → ((l ≡ a) × (u ≡ b)) ⊎ ((l ≡ b) × (u ≡ a))
    go true true r s la ub lb ua is' = inl (as_is l a la, as_is u b ub)
    go true false r s la ub lb ua is' = absurd (let both : false ≡ true = is' in cc)
    go false q true true la ub lb ua is' = inr (as_is l b lb, as_is u a ua)
    go false q true false la ub lb ua is' = absurd (let both : false ≡ true = is' in cc)
    go false q false s la ub lb ua is' = absurd (let both : false ≡ true = is' in cc)

pub kept_all : (k : ℕ) (start now : Flow) → length start.adjacencies ≤ k → KeptUpTo k start now → (a b : As) → has_adjacency a b start.adjacencies ≡ true → KeepsRoomAt a (Inner b) 0 0 now
kept_all k start now past kept a b linked =
    let found = link_found a b start.adjacencies linked in
    let x = found.1 in
    let below : found.0 < k = omega (arith, found.2, past) in
    elim (either_way x.lower x.upper a b found.4) [
      | inl way ↦ subst (λ (d : As). KeepsRoomAt d (Inner b) 0 0 now) way.0 (subst (λ (d : As). KeepsRoomAt x.lower (Inner d) 0 0 now) way.1 (kept.lower found.0 x below found.3))
      | inr way ↦ subst (λ (d : As). KeepsRoomAt d (Inner b) 0 0 now) way.1 (subst (λ (d : As). KeepsRoomAt x.upper (Inner d) 0 0 now) way.0 (kept.upper found.0 x below found.3))
    ]

-- ---- adjacencies by their places

adjacency_within : (xs : List Adjacency) (k : ℕ) → k < length xs → None ≡ slice_get xs k → ⊥
adjacency_within [] k below is = absurd (omega (arith, below))
adjacency_within (x ∷ xs) zero below is = let none : None ≡ Some x = is in cc
adjacency_within (x ∷ xs) (suc k) below is = adjacency_within xs k (omega (arith, below)) is

pub adjacency_stands : (xs ys : List Adjacency) (k count : ℕ) → xs ≡ ys → count ≡ length ys → k < count → None ≡ slice_get xs k → ⊥
adjacency_stands xs ys k count same counted below is = adjacency_within ys k (omega (arith, counted, below)) (is ∙ ap (λ (zs : List Adjacency). slice_get zs k) same)

-- ---- the network that has begun

pub opens_roomy : {P : Type 0} {S : Type 0} (n : NetworkParts) (ms : Membership P S) (f now : Flow) → IsBare (adjacencies n) (length n.peers) f → ((at : As) (p : Peer) → owed at p ms ≡ 0) →
    now.accesses ≡ f.accesses → now.adjacencies ≡ f.adjacencies → now.peers ≡ f.peers → now.said ≡ [] → ((a b : As) → has_adjacency a b (adjacencies n) ≡ true → KeepsRoomAt a (Inner b) 0 0 now) → CoversWords n 0 0 0 ms now → IsRoomy n ms now
opens_roomy n ms f now bare nothing accesses adjacencies_are peers_are said keeps covers = record {
  answers = record { live = live; dead = λ at to dead'. nothing at to };
  said = record {
    messages = omega (arith, covers.messages, words, ap length said);
    bytes = omega (arith, covers.bytes, words, ap (total size_of) said);
  };
}
  where
    words : own_words now ≡ own_most n
    words = omega (arith, peers_are ∙ bare.peers_are, ap length (adjacencies_are ∙ bare.adjacencies_are))

    closed : (i : ℕ) → is_talking (now.accesses i).connection ≡ false
    closed i = ap (λ (f' : ℕ → _). is_talking (f' i).connection) (accesses ∙ bare.accesses)

    none_lives : (b : Bool) (i : ℕ) → cond b (is_talking (now.accesses i).connection) false ≡ true → ⊥
    none_lives true i is = let both : false ≡ true = sym (closed i) ∙ is in cc
    none_lives false i is = let both : false ≡ true = is in cc

    live : (at : As) (to : Peer) → is_live n now at to ≡ true → KeepsRoomAt at to (owed at to ms) (32 * owed at to ms) now
    live at (Outside i) is = absurd (none_lives (same_as at (deeds.element_of n i)) i is)
    live at (Inner b) is = subst (λ (k : ℕ). KeepsRoomAt at (Inner b) k (32 * k) now) (sym (nothing at (Inner b))) (keeps at b is)
