-- A network that has just been made.
use Rattle.std.proofs.Common.{◌≡◌, ◌+◌, ℕ, None, Result, Ok, Err, OnOk, Bool, true, false, cond, List, [], ◌∷◌, length, refl, sym, ◌∙◌, ap, ap₂, subst}
use Rattle.network_events.specs.plant_model.Types.{As, NoMemory, Peer, Hop, State as Session, NetworkParts}
use Rattle.plant_text.specs.Names.{same_as, parent_as}
use Rattle.plant_text.specs.Networks.{ObeysRules}
use Rattle.plant_text.specs.Settings.{adjacencies}
use Rattle.network_events.specs.plant_model.Element.{Element}
use Rattle.network_events.specs.plant_model.Events as events
use Rattle.network_events.specs.plant_model.Parent.{Parent}
use Rattle.network_events.specs.plant_model.RealWire.{wire}
use Rattle.network_events.specs.plant_model.State.{Access, State}
use Rattle.network_events.specs.plant_model.Wire.{Bytes}
use Rattle.network_events.specs.network_links.Flow.{Flow, IsBare}
use Rattle.network_events.specs.network_links.Links.{new_sender}
use Rattle.network_events.specs.pce_common.Membership.{Membership}
use Rattle.network_events.specs.pce_common.Owed.{count_by_asker, is_peer, owed, pending_at, pending_in}
use Rattle.network_events.specs.Passing.{IsOf}
use Rattle.network_events.specs.Rooms.{IsRoomy}
use Rattle.network_events.specs.Standing.{Here, state_of}
use Rattle.plant_laws.specs.Lasting.{AreInOrder, KeysInTime}
use Rattle.plant_laws.proofs.LastingLemmas.HappeningsLast.{opened_in_order, opened_in_time}
use Rattle.network_members.proofs.ApartLemmas.{ends_are_two}
use Rattle.network_members.proofs.JoinedLemmas.{are_joined, elements_below}
use Rattle.plant_network.specs.Beginning.{AreBare, Begins}
use Rattle.network_events.specs.Moving.{IsKept, whole}

none_either : (b : Bool) (z : ℕ) → cond b z z ≡ z
none_either true z = refl
none_either false z = refl

abbrev new_sessions : As → As → Session
new_sessions = λ a b. new_sender.session

module _ {P : Type 0} {S : Type 0} (n : NetworkParts) (show : S → List Hop) where
  -- ---- nothing is pending

  pub owes_nothing : (ms : Membership P S) → AreBare n show ms → (at : As) (p : Peer) → owed at p ms ≡ 0
  owes_nothing ms are at p =
      ap₂ (λ (k : Parent) (es : As → Element P S). cond (same_as at parent_as) (count_by_asker (is_peer p) k.pending.rows) (count_by_asker (is_peer p) (es at).pending.rows)) are.parent are.elements
      ∙ none_either (same_as at parent_as) 0

  none_at : (ms : Membership P S) → AreBare n show ms → (ds : List As) → pending_at ds ms ≡ 0
  none_at ms are [] = refl
  none_at ms are (d ∷ ds) = ap₂ (λ (es : As → Element P S) (k : ℕ). length (es d).pending.rows + k) are.elements (none_at ms are ds)

  pub pends_nothing : (ms : Membership P S) → AreBare n show ms → (ds : List As) → pending_in ds ms ≡ 0
  pends_nothing ms are ds = ap₂ (λ (k : Parent) (i : ℕ). length k.pending.rows + i) are.parent (none_at ms are ds)

  -- ---- the opening state

  abbrev bare_at : (As → P) → ℕ → (ℕ → Access) → (As → As → Session) → (As → As → List Bytes) → State P S
  bare_at first clock accesses sessions queues =
      let s = events.bare P S wire n show first in
      record { clock = clock; elements = s.elements; parent = s.parent; current = first; accesses = accesses; sessions = sessions; queues = queues }

  bare_is : (ms : Membership P S) (f : Flow) → AreBare n show ms → IsBare (adjacencies n) (length n.peers) f → state_of ms f ≡ events.bare P S wire n show ms.current
  bare_is ms f are bare =
      ap₂ (λ (es : As → Element P S) (k : Parent). let s : State P S = record { clock = f.clock; elements = es; parent = k; current = ms.current; accesses = f.accesses; sessions = f.sessions; queues = f.queues } in s) are.elements are.parent
      ∙ ap (λ (x : ℕ). bare_at ms.current x f.accesses f.sessions f.queues) bare.clock
      ∙ ap (λ (x : ℕ → Access). bare_at ms.current 0 x f.sessions f.queues) bare.accesses
      ∙ ap (λ (x : As → As → Session). bare_at ms.current 0 (λ i. record { opened = 0; connection = None }) x f.queues) bare.sessions
      ∙ ap (λ (x : As → As → List Bytes). bare_at ms.current 0 (λ i. record { opened = 0; connection = None }) new_sessions x) bare.queues

  pub opens : (ms : Membership P S) (f g : Flow) → AreBare n show ms → IsBare (adjacencies n) (length n.peers) f →
      state_of ms g ≡ (events.begin_adjacencies P S wire n show (adjacencies n) (events.idle P S wire n show (state_of ms f))).state → state_of ms g ≡ (events.opening P S wire n show ms.current).state
  opens ms f g are bare state =
      state ∙ ap (λ (s : State P S). (events.begin_adjacencies P S wire n show (adjacencies n) (events.idle P S wire n show s)).state) (bare_is ms f are bare)

-- it is sound
module _ {P : Type 0} {S : Type 0} (show : S → List Hop) (h : Here P S) where
  pub begins : ObeysRules h.network → IsKept h → h.flow.said ≡ [] → (whole h).state ≡ (events.opening P S wire h.network show h.seen.current).state → Begins show h
  begins net kept said state = record {
    state = state;
    said = said;
    sound = record {
      joined = are_joined h.network net;
      apart = ends_are_two h.network net;
      below = elements_below h.network net;
      few = net.few;
      kept = kept;
      order = subst AreInOrder (sym state) (opened_in_order P S wire h.network show h.seen.current);
      keys = subst (λ (s : State P S). KeysInTime s) (sym state) (opened_in_time P S wire h.network show h.seen.current);
    };
  }

  pub begins_if : (f : Flow) (r : Result (Unit {0}) NoMemory) → ObeysRules h.network → IsBare (adjacencies h.network) (length h.network.peers) f → AreBare h.network show h.seen → ((d : As) → h.lost d ≡ []) →
      OnOk r (IsOf h.network h.flow) → OnOk r (IsRoomy h.network h.seen h.flow) → OnOk r (h.flow.said ≡ []) →
      OnOk r (state_of h.seen h.flow ≡ (events.begin_adjacencies P S wire h.network show (adjacencies h.network) (events.idle P S wire h.network show (state_of h.seen f))).state) → OnOk r (Begins show h)
  begins_if f (Ok done) net bare are none of room said state =
      begins net (record { of = of; none = none; roomy = room }) said (opens h.network show h.seen f h.flow are bare state)
  begins_if f (Err why) net bare are none of room said state = tt
