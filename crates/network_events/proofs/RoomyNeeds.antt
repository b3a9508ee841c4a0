-- The room that is kept is enough for all that is said where no memory is taken.
use Rattle.std.proofs.Common.{◌≡◌, ◌≤◌, ℕ, ◌+◌, ◌*◌, Bool, true, false, not, cond, is_some, List, [], ◌∷◌, length, refl, ap, sym, ◌∙◌, arith, inl, inr}
use Rattle.std.specs.Prelude.{nat_lt}
use Rattle.std.proofs.lemmas.Bool.{cases_Bool, eq-eqb}
use Rattle.pce_common.specs.plant_model.Types.{As, Peer, Outside, Inner, Input, Phase, State as Session, NetworkParts}
use Rattle.pcep_session.specs.declared.state.Phase.TheVariants as phase
use Rattle.pcep_session.specs.Table.{turn_in, turn_of, quiet}
use Rattle.plant_queues.specs.Messages.{Covers}
use Rattle.plant_text.specs.Names.{same_as, same_link, parent_as}
use Rattle.plant_text.specs.Settings.{Adjacency, adjacency, adjacencies, has_adjacency, is_element, elements_of}
use Rattle.pce_common.specs.plant_model.Deeds.{element_of}
use Rattle.pce_common.specs.plant_model.Events.{is_down}
use Rattle.network_links.specs.Flow.{Flow, room_at}
use Rattle.pce_common.specs.Membership.{Membership, is_member, fallen, lost_at}
use Rattle.pce_common.specs.Owed.{is_peer, owed, pending_in}
use Rattle.network_events.specs.Telling.{RoomToTell, count_lost}
use Rattle.network_events.specs.Breaking.{RoomToBreak}
use Rattle.network_events.specs.Acting.{RoomToBreakAt}
use Rattle.network_events.specs.Passing.{IsOf}
use Rattle.network_events.specs.Peers.{IsLinkEnd}
use Rattle.network_events.specs.Rooms.{is_live, is_talking}
use Rattle.network_events.specs.Roomy.{KeepsOn}
use Rattle.network_events.proofs.GoLaws.{self, as_is}
use Rattle.network_events.proofs.OwedLaws.{fallen_count}
use Rattle.network_events.proofs.PendingLaws.{among, element_among, fallen_pending}

pub apart_back : (a b : As) → same_as a b ≡ false → same_as b a ≡ false
apart_back a b miss = elim (cases_Bool (same_as b a)) [
  | inl hit ↦
      let is : b ≡ a = as_is b a hit in
      let clash : true ≡ false = sym (eq-eqb a.0 b.0 (ap (λ (x : As). x.0) (sym is))) ∙ miss in
      cc
  | inr not_back ↦ not_back
]

-- a link from one end is one from the other
link_back : (a b c d : As) → same_link a b c d ≡ true → same_link a b d c ≡ true
link_back a b c d e =
    go (same_as a c) (same_as b d) (same_as a d) (same_as b c) (λ x y z. eq-eqb b.0 c.0 (ap (λ (q : As). q.0) (as_is b d x ∙ sym (as_is a d y) ∙ as_is a c z))) e
  where
    go : (p q r s : Bool) → (q ≡ true → r ≡ true → p ≡ true → s ≡ true) → cond p q (cond r s false) ≡ true → cond r s (cond p q false) ≡ true
    go true true true s is e' = is refl refl refl
    go true true false s is e' = refl
    go true false r s is e' = cc
    go false q true s is e' = e'
    go false q false s is e' = cc

pub adjacency_back : (a b : As) (xs : List Adjacency) → has_adjacency a b xs ≡ true → has_adjacency b a xs ≡ true
adjacency_back a b [] e = cc
adjacency_back a b (x ∷ xs) e = go (same_link x.lower x.upper a b) (same_link x.lower x.upper b a) (link_back x.lower x.upper a b) (adjacency_back a b xs) e
  where
    go : (p q : Bool) → (p ≡ true → q ≡ true) → (has_adjacency a b xs ≡ true → has_adjacency b a xs ≡ true) → cond p true (has_adjacency a b xs) ≡ true → cond q true (has_adjacency b a xs) ≡ true
    go true true is more e' = refl
    go true false is more e' = let clash : false ≡ true = is refl in cc
    go false true is more e' = refl
    go false false is more e' = more e'

member_among : (n : NetworkParts) (at : As) → is_member n at ≡ true → cond (same_as at parent_as) true (among at (elements_of n.elements)) ≡ true
member_among n at member = go (same_as at parent_as) (element_among at n.elements) member
  where
    go : (b : Bool) → (is_element n at ≡ true → among at (elements_of n.elements) ≡ true) → cond b (is_some n.parent) (is_element n at) ≡ true → cond b true (among at (elements_of n.elements)) ≡ true
    go true is e = refl
    go false is e = is e

-- a session that is over stays so, and does nothing
pub down_quiet : (s : Session) (x : Input) → is_down s.phase ≡ true → turn_of s x ≡ quiet s
down_quiet s x over = go s.phase over
  where
    go : (p : Phase) → is_down p ≡ true → turn_in p s x ≡ quiet s
    go phase.Idle e = cc
    go phase.OpenWait e = cc
    go phase.KeepWait e = cc
    go phase.Up e = cc
    go phase.Down e = refl

-- room in a queue for so many answers
abbrev Answers : As → Peer → ℕ → Flow → Type 0
Answers at to k f = Covers (room_at at to f) k (32 * k)

-- an outside peer is one of one element
one_element : (n : NetworkParts) (l u : As) (i : ℕ) (f : Flow) → same_as l u ≡ false → is_live n f l (Outside i) ≡ true → is_live n f u (Outside i) ≡ false
one_element n l u i f apart live =
    go (same_as l (element_of n i)) (same_as u (element_of n i)) (λ x y. sym (eq-eqb l.0 u.0 (ap (λ (a : As). a.0) (as_is l (element_of n i) x ∙ sym (as_is u (element_of n i) y)))) ∙ apart) live
  where
    go : (b c : Bool) → (b ≡ true → c ≡ true → true ≡ false) → cond b (is_talking (f.accesses i).connection) false ≡ true → cond c (is_talking (f.accesses i).connection) false ≡ false
    go true true is e = absurd (let clash : true ≡ false = is refl refl in cc)
    go true false is e = refl
    go false c is e = cc

-- ---- a link of the network

pub adjacency_either : (a b : As) (Q : Adjacency → Type 0) → Q (record { lower = b; upper = a }) → Q (record { lower = a; upper = b }) → Q (adjacency a b)
adjacency_either a b Q left right = go (nat_lt b.0 a.0)
  where
    go : (c : Bool) → Q (cond c (record { lower = b; upper = a }) (record { lower = a; upper = b }))
    go true = left
    go false = right

pub adjacency_is : (a b l u : As) → l ≡ (adjacency a b).lower → u ≡ (adjacency a b).upper → record { lower = l; upper = u } ≡ adjacency a b
adjacency_is a b l u lower upper =
    ap (λ (c : As). let x : Adjacency = record { lower = c; upper = u } in x) lower ∙ ap (λ (c : As). let x : Adjacency = record { lower = (adjacency a b).lower; upper = c } in x) upper

pub linked_in : (n : NetworkParts) (f : Flow) (a b : As) → IsOf n f → has_adjacency a b f.adjacencies ≡ true → has_adjacency a b (adjacencies n) ≡ true
linked_in n f a b of linked = ap (λ (xs : List Adjacency). has_adjacency a b xs) (sym of.adjacencies_are) ∙ linked

pub record IsLink (n : NetworkParts) (x : Adjacency) : Type 0 where
  pub lower : is_member n x.lower ≡ true
  pub upper : is_member n x.upper ≡ true
  pub apart : same_as x.lower x.upper ≡ false
  pub linked : has_adjacency x.lower x.upper (adjacencies n) ≡ true

pub link_of : (n : NetworkParts) (f : Flow) (at b : As) → IsLinkEnd n f at b → is_member n at ≡ true → IsOf n f → IsLink n (adjacency b at)
link_of n f at b end member of =
    let linked = linked_in n f at b of end.linked in
    adjacency_either b at (IsLink n)
    (record { lower = member; upper = end.other; apart = apart_back b at end.apart; linked = linked })
    (record { lower = end.other; upper = member; apart = end.apart; linked = adjacency_back at b (adjacencies n) linked })

-- an outside peer whose session is not over has a queue that is used
pub live_outside : (n : NetworkParts) (f : Flow) (i : ℕ) (at : As) → at ≡ element_of n i → is_talking (f.accesses i).connection ≡ true → is_live n f at (Outside i) ≡ true
live_outside n f i at at_is talks = ap (λ (b : Bool). cond b (is_talking (f.accesses i).connection) false) (ap (same_as at) (sym at_is) ∙ self at.0) ∙ talks

module _ {P : Type 0} {S : Type 0} (n : NetworkParts) where
  -- a member loses no more requests of a peer than it owes it answers
  pub lost_owed : (d : As) (p q : Peer) (ms : Membership P S) → owed d q (fallen d p ms) + count_lost (is_peer q) (lost_at d p ms) ≤ owed d q ms
  lost_owed d p q ms =
      let hit : cond {A = ℕ} (same_as d d) (count_lost (is_peer q) (lost_at d p ms)) 0 ≡ count_lost (is_peer q) (lost_at d p ms) = ap (λ (b : Bool). cond {A = ℕ} b (count_lost (is_peer q) (lost_at d p ms)) 0) (self d.0) in
      omega (arith, fallen_count (is_peer q) d d p ms, hit)

  pub fallen_owed : (d at : As) (p q : Peer) (ms : Membership P S) → owed at q (fallen d p ms) ≤ owed at q ms
  fallen_owed d at p q ms = omega (arith, fallen_count (is_peer q) d at p ms)

  answers_least : (own : ℕ) (at : As) (to : Peer) (k : ℕ) (ms : Membership P S) (f : Flow) → KeepsOn own n ms f → k ≤ owed at to ms → Answers at to k f
  answers_least own at to k ms f keeps le = elim (cases_Bool (is_live n f at to)) [
    | inl live ↦
        let room = keeps.answers.live at to live in
        record { messages = omega (arith, room.last_words.messages, le); bytes = omega (arith, room.last_words.bytes, le) }
    | inr over ↦
        let none = keeps.answers.dead at to over in
        record { messages = omega (arith, none, le); bytes = omega (arith, none, le) }
  ]

  pub lost_pending : (d : As) (p : Peer) (ms : Membership P S) → is_member n d ≡ true →
      pending_in (elements_of n.elements) (fallen d p ms) + length (lost_at d p ms) ≤ pending_in (elements_of n.elements) ms
  lost_pending d p ms member = fallen_pending (elements_of n.elements) d p ms (member_among n d member)

  -- the lost requests of a member can be answered
  pub tells_room : (own : ℕ) (d : As) (p : Peer) (ms : Membership P S) (f : Flow) → is_member n d ≡ true → KeepsOn own n ms f → RoomToTell d (lost_at d p ms) f
  tells_room own d p ms f member keeps =
      let lost = lost_pending d p ms member in
      record {
        there = λ to. answers_least own d to (count_lost (is_peer to) (lost_at d p ms)) ms f keeps (omega (arith, lost_owed d p to ms));
        said = record { messages = omega (arith, keeps.said.messages, lost); bytes = omega (arith, keeps.said.bytes, lost) };
      }

  two_least : (own : ℕ) (l u : As) (i j k : ℕ) (ms : Membership P S) (f : Flow) → same_as l u ≡ false → KeepsOn own n ms f → j ≤ owed l (Outside i) ms → k ≤ owed u (Outside i) ms →
      Covers (f.room.outside i) (j + k) (32 * j + 32 * k)
  two_least own l u i j k ms f apart keeps below above = elim (cases_Bool (is_live n f l (Outside i))) [
    | inl live ↦
        let none = keeps.answers.dead u (Outside i) (one_element n l u i f apart live) in
        let room = answers_least own l (Outside i) j ms f keeps below in
        record { messages = omega (arith, room.messages, none, above); bytes = omega (arith, room.bytes, none, above) }
    | inr over ↦
        let none = keeps.answers.dead l (Outside i) over in
        let room = answers_least own u (Outside i) k ms f keeps above in
        record { messages = omega (arith, room.messages, none, below); bytes = omega (arith, room.bytes, none, below) }
  ]

  -- a link can break
  pub breaks_room : (own : ℕ) (l u : As) (ms : Membership P S) (f : Flow) → same_as l u ≡ false → is_member n l ≡ true → is_member n u ≡ true → has_adjacency l u (adjacencies n) ≡ true → 2 ≤ own → KeepsOn own n ms f →
      RoomToBreak l u (lost_at l (Inner u) ms) (lost_at u (Inner l) (fallen l (Inner u) ms)) f
  breaks_room own l u ms f apart lower upper linked some keeps =
      let below = lost_pending l (Inner u) ms lower in
      let above = lost_pending u (Inner l) (fallen l (Inner u) ms) upper in
      let to_upper = keeps.answers.live l (Inner u) linked in
      let to_lower = keeps.answers.live u (Inner l) (adjacency_back l u (adjacencies n) linked) in
      record {
        first = tells_room own l (Inner u) ms f lower keeps;
        inner = λ b. answers_least own u (Inner b) _ ms f keeps (second (Inner b));
        outside = λ i. two_least own l u i _ _ ms f apart keeps (omega (arith, lost_owed l (Inner u) (Outside i) ms)) (second (Outside i));
        said = record { messages = omega (arith, keeps.said.messages, some, below, above); bytes = omega (arith, keeps.said.bytes, some, below, above) };
        lower_open = record { messages = omega (arith, to_upper.first_word.messages); bytes = omega (arith, to_upper.first_word.bytes) };
        upper_open = record { messages = omega (arith, to_lower.first_word.messages); bytes = omega (arith, to_lower.first_word.bytes) };
      }
    where
      second : (q : Peer) → count_lost (is_peer q) (lost_at u (Inner l) (fallen l (Inner u) ms)) ≤ owed u q ms
      second q = omega (arith, lost_owed u (Inner l) q (fallen l (Inner u) ms), fallen_owed l u (Inner u) q ms)

  -- an end of a link that breaks
  pub breaks_end : (own : ℕ) (at b : As) (ms : Membership P S) (f : Flow) → IsLinkEnd n f at b → is_member n at ≡ true → IsOf n f → 2 ≤ own → KeepsOn own n ms f → RoomToBreakAt at (Inner b) ms f
  breaks_end own at b ms f end member of some keeps =
      let link = link_of n f at b end member of in
      breaks_room own (adjacency b at).lower (adjacency b at).upper ms f link.apart link.lower link.upper link.linked some keeps
