-- Events by which requests are lost, a break and a shut: there is room for them, and the room that is kept stays so.
use Rattle.std.proofs.Common.{◌≡◌, ◌≤◌, ◌<◌, ℕ, is_some, true, false, Option, Some, None, List, [], ◌∷◌, length, refl, sym, subst, arith}
use Rattle.std.specs.Prelude.{slice_get}
use Rattle.std.proofs.lemmas.Option.{slice_get_within}
use Rattle.pce_common.specs.plant_model.Types.{As, Hop, NetworkParts, Outside, Inner}
use Rattle.plant_text.specs.Names.{same_as}
use Rattle.plant_text.specs.Settings.{Adjacency, has_adjacency, adjacency, adjacencies}
use Rattle.pce_common.specs.plant_model.declared.output.Lost.{Lost}
use Rattle.pce_common.specs.plant_model.RealWire.{wire}
use Rattle.pce_common.specs.plant_model.Deeds as deeds
use Rattle.pce_common.specs.plant_model.Deeds.{element_of}
use Rattle.pce_common.specs.plant_model.Events as events
use Rattle.network_links.specs.declared.access.Access.{Access}
use Rattle.network_links.specs.Carried.{Carried, flow_of}
use Rattle.network_links.specs.Flow.{Flow, ClearsSaid, shut}
use Rattle.network_links.specs.Peers.{access_or}
use Rattle.network_events.specs.Breaking.{RoomToBreak}
use Rattle.pce_common.specs.Membership.{AreJoined, Membership, fallen, is_member, lost_at}
use Rattle.network_events.specs.Rooms.{IsRoomy, own_most}
use Rattle.network_events.specs.Standing.{Goes, here_of, state_of}
use Rattle.network_events.specs.Telling.{RoomToTell}
use Rattle.network_events.proofs.EventLaws.{begins_at}
use Rattle.network_events.proofs.RoomyNeeds.{breaks_room, adjacency_back, adjacency_either, tells_room}
use Rattle.network_events.proofs.RoomySteps.{begins_keeps, ends_roomy}
use Rattle.network_events.proofs.RoomyEvents.{break_keeps}
use Rattle.network_events.proofs.RoomyOpens.{shut_keeps}

some_adjacencies : (a b : As) (xs : List Adjacency) → has_adjacency a b xs ≡ true → 1 ≤ length xs
some_adjacencies a b [] e = absurd (let both : false ≡ true = e in cc)
some_adjacencies a b (x ∷ xs) e = omega arith

-- what is said has room for two Opens, where there is a link
some_words : (n : NetworkParts) (a b : As) → has_adjacency a b (adjacencies n) ≡ true → 2 ≤ own_most n
some_words n a b e = omega (arith, some_adjacencies a b (adjacencies n) e)

pub ends_linked : (a b : As) (xs : List Adjacency) → has_adjacency a b xs ≡ true → has_adjacency (adjacency a b).lower (adjacency a b).upper xs ≡ true
ends_linked a b xs e = adjacency_either a b (λ x. has_adjacency x.lower x.upper xs ≡ true) (adjacency_back a b xs e) e

-- an outside peer that is open is one of the network
pub open_below : (x : Carried) (i : ℕ) → is_some ((flow_of x).accesses i).connection ≡ true → i < (flow_of x).peers
open_below x i e = go (slice_get x.peers i) refl e
  where
    go : (o : Option Access) → slice_get x.peers i ≡ o → is_some (access_or o).connection ≡ true → i < length x.peers
    go None is e' = absurd (let both : false ≡ true = e' in cc)
    go (Some a) is e' = slice_get_within x.peers i a is

module _ {P : Type 0} {S : Type 0} (n : NetworkParts) where
  pub room_to_break : (l u : As) (ms : Membership P S) (f f1 : Flow) → AreJoined n → ((a b : As) → has_adjacency a b (adjacencies n) ≡ true → same_as a b ≡ false) → has_adjacency l u (adjacencies n) ≡ true →
      ClearsSaid f f1 → IsRoomy n ms f → RoomToBreak l u (lost_at l (Inner u) ms) (lost_at u (Inner l) (fallen l (Inner u) ms)) f1
  room_to_break l u ms f f1 joined apart linked clears roomy =
      breaks_room n (own_most n) l u ms f1 (apart l u linked) (joined.links l u linked) (joined.links u l (adjacency_back l u (adjacencies n) linked)) linked (some_words n l u linked) (begins_keeps n ms f f1 clears roomy)

  pub room_to_shut : (at : As) (i : ℕ) (ms : Membership P S) (f f1 : Flow) → is_member n at ≡ true → ClearsSaid f f1 → IsRoomy n ms f → RoomToTell at (lost_at at (Outside i) ms) f1
  room_to_shut at i ms f f1 member clears roomy = tells_room n (own_most n) at (Outside i) ms f1 member (begins_keeps n ms f f1 clears roomy)

  module _ (show : S → List Hop) where
    pub break_roomy : (l u : As) (n' : NetworkParts) (ms ms' : Membership P S) (lost lost' : As → List Lost) (f f1 f' : Flow) → AreJoined n → ((a b : As) → has_adjacency a b (adjacencies n) ≡ true → same_as a b ≡ false) → has_adjacency l u (adjacencies n) ≡ true →
        ClearsSaid f f1 → IsRoomy n ms f → Goes (λ k. deeds.break_adjacency P S wire k show (record { lower = l; upper = u })) (here_of n ms lost f1) (here_of n' ms' lost' f') → IsRoomy n ms' f'
    break_roomy l u n' ms ms' lost lost' f f1 f' joined apart linked clears roomy goes =
        ends_roomy n 0 ms' f'
        (break_keeps show n 0 (own_most n) l u (events.idle P S wire n show (state_of ms f)) n' ms ms' lost lost' f1 f' (omega (arith, some_words n l u linked)) (apart l u linked) (joined.links l u linked)
        (joined.links u l (adjacency_back l u (adjacencies n) linked)) goes (begins_at show n ms f f1 clears) (begins_keeps n ms f f1 clears roomy))

    pub shut_roomy : (i : ℕ) (at : As) (n' : NetworkParts) (ms ms' : Membership P S) (lost lost' : As → List Lost) (f f1 f2 f3 : Flow) → at ≡ element_of n i → is_member n (element_of n i) ≡ true →
        ClearsSaid f f1 → IsRoomy n ms f → Goes (λ k. deeds.fall P S wire k show at (Outside i)) (here_of n ms lost f1) (here_of n' ms' lost' f2) → f3 ≡ shut i f2 → IsRoomy n ms' f3
    shut_roomy i at n' ms ms' lost lost' f f1 f2 f3 at_is member clears roomy goes is =
        let goes' = subst (λ (a : As). Goes (λ k. deeds.fall P S wire k show a (Outside i)) (here_of n ms lost f1) (here_of n' ms' lost' f2)) at_is goes in
        subst (λ (x : Flow). IsRoomy n ms' x) (sym is)
        (ends_roomy n (own_most n) ms' (shut i f2)
        (shut_keeps show n (own_most n) i (events.idle P S wire n show (state_of ms f)) n' ms ms' lost lost' f1 f2 member goes' (begins_at show n ms f f1 clears) (begins_keeps n ms f f1 clears roomy)))
