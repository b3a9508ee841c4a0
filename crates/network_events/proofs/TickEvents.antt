-- A tick as an event: how it begins, its deeds together, and what stands after it.
use Rattle.std.proofs.Common.{◌≡◌, ◌≤◌, ℕ, ◌+◌, ◌*◌, List, [], length, Ok, refl, ap, sym, subst, ◌∙◌, arith}
use Rattle.pce_common.specs.plant_model.Types.{Tick, Hop, NetworkParts}
use Rattle.plant_text.specs.Settings.{adjacencies}
use Rattle.pce_common.specs.plant_model.declared.outcome.Outcome.TheVariants.{Done}
use Rattle.pce_common.specs.plant_model.RealWire.{wire}
use Rattle.pce_common.specs.plant_model.Deeds as deeds
use Rattle.pce_common.specs.plant_model.Deeds.{Going}
use Rattle.pce_common.specs.plant_model.Events as events
use Rattle.network_links.specs.Flow.{Flow, ClearsSaid}
use Rattle.network_events.specs.Happening.{IsDone}
use Rattle.pce_common.specs.Membership.{KeysBefore, Membership}
use Rattle.network_events.specs.Moving.{IsKept}
use Rattle.network_events.specs.Rooms.{IsRoomy, own_most}
use Rattle.network_events.specs.Roomy.{KeepsOn}
use Rattle.network_events.specs.Standing.{IsAt, Here, Goes, state_of}
use Rattle.network_events.specs.Using.{IsOn, IsUnderWay, Uses}
use Rattle.network_events.proofs.GoLaws.{goes_then}
use Rattle.network_events.proofs.RoomySteps.{begins_keeps, ends_roomy, keeps_fewer}
use Rattle.network_events.proofs.RoomyEvents.{expire_keeps}
use Rattle.network_events.proofs.RoomyOpens.{clock_keeps}
use Rattle.network_events.proofs.TickKeys.{keys_after, tick_adjacencies_clock, tick_outside_clock}
use Rattle.network_events.proofs.TickingLaws.{uses_then}

module _ {P : Type 0} {S : Type 0} (show : S → List Hop) where
  -- what a tick begins with
  abbrev pub at_moment : ℕ → Membership P S → Flow → Going P S
  at_moment now ms f = record { state = record (state_of ms f) { clock = now }; deeds = [] }

  pub moment_is : (now : ℕ) (ms : Membership P S) (f f1 f2 : Flow) → ClearsSaid f f1 → f2 ≡ record f1 { clock = now } → IsAt (at_moment now ms f) ms f2
  moment_is now ms f f1 f2 clears is = record {
    state = ap (state_of ms) is ∙ ap (λ (x : Flow). state_of ms (record x { clock = now })) clears.kept;
    said = ap (λ (x : Flow). x.said) is ∙ ap (λ (x : Flow). x.said) clears.kept;
  }

  moment_on : (now : ℕ) (ms : Membership P S) (f f1 f2 : Flow) → ClearsSaid f f1 → f2 ≡ record f1 { clock = now } → IsOn ms f2
  moment_on now ms f f1 f2 clears is = record { going = at_moment now ms f; at = moment_is now ms f f1 f2 clears is }

  moment_keeps : (now own : ℕ) (n : NetworkParts) (ms : Membership P S) (f f1 f2 : Flow) → ClearsSaid f f1 → f2 ≡ record f1 { clock = now } → own ≤ own_most n → IsRoomy n ms f → KeepsOn own n ms f2
  moment_keeps now own n ms f f1 f2 clears is some roomy =
      keeps_fewer n own (own_most n) ms f2 some
      (subst (λ (x : Flow). KeepsOn (own_most n) n ms x) (sym is) (clock_keeps show n (own_most n) now ms f1 (begins_keeps n ms f f1 clears roomy)))

  pub moment_under : (now own : ℕ) (h : Here P S) (f1 f2 : Flow) → ClearsSaid h.flow f1 → f2 ≡ record f1 { clock = now } → own ≤ own_most h.network → IsKept h → IsUnderWay own (record h { flow = f2 })
  moment_under now own h f1 f2 clears is some kept = record {
    of = record {
      adjacencies_are = ap (λ (x : Flow). x.adjacencies) is ∙ ap (λ (x : Flow). x.adjacencies) clears.kept ∙ kept.of.adjacencies_are;
      peers_are = ap (λ (x : Flow). x.peers) is ∙ ap (λ (x : Flow). x.peers) clears.kept ∙ kept.of.peers_are;
    };
    none = kept.none;
    on = moment_on now h.seen h.flow f1 f2 clears is;
    keeps = moment_keeps now own h.network h.seen h.flow f1 f2 clears is some kept.roomy;
  }

  module _ (now : Tick) where
    abbrev pub peers_told : NetworkParts → Going P S → Going P S
    peers_told n g = deeds.tick_outside P S wire n show 0 n.peers now g

    abbrev pub adjacencies_told : NetworkParts → Going P S → Going P S
    adjacencies_told n g = deeds.tick_adjacencies P S wire n show (adjacencies n) now g

    abbrev pub told_all : NetworkParts → Going P S → Going P S
    told_all n g = deeds.expire P S wire n show now.0 (adjacencies_told n (peers_told n g))

    -- no key was issued after the moment, before keys expire
    pub told_keys : (a b c : Here P S) → Goes peers_told a b → Goes adjacencies_told b c → IsOn a.seen a.flow → KeysBefore now.0 a.network a.seen → KeysBefore now.0 c.network c.seen
    told_keys a b c x y on keys =
        let g1 = peers_told a.network on.going in
        let is1 = x.goes on.going on.at in
        let before = keys_after now.0 a.network b.network on.going g1 a.seen b.seen a.flow b.flow x.network on.at is1 (λ d. tick_outside_clock show a.network now d a.network.peers on.going) keys in
        keys_after now.0 b.network c.network g1 (adjacencies_told b.network g1) b.seen c.seen b.flow c.flow y.network is1 (y.goes g1 is1) (λ d. tick_adjacencies_clock show b.network now d (adjacencies b.network) g1) before

    expire_uses : (a b : Here P S) → Goes (λ n. deeds.expire P S wire n show now.0) a b → Uses (λ n. deeds.expire P S wire n show now.0) 0 a b
    expire_uses a b goes = record {
      goes = goes;
      keeps = λ g is own keeps. expire_keeps show a.network own now.0 g b.network a.seen b.seen a.lost b.lost a.flow b.flow goes is (keeps_fewer a.network own (0 + own) a.seen a.flow (omega arith) keeps);
    }

    pub told_uses : (a b c e : Here P S) → Uses peers_told (2 * length a.network.peers) a b → Uses adjacencies_told (4 * length (adjacencies b.network)) b c → Goes (λ n. deeds.expire P S wire n show now.0) c e →
        Uses told_all ((2 * length a.network.peers + 4 * length (adjacencies b.network)) + 0) a e
    told_uses a b c e x y z =
        uses_then (λ n g. adjacencies_told n (peers_told n g)) (λ n. deeds.expire P S wire n show now.0) (2 * length a.network.peers + 4 * length (adjacencies b.network)) 0 a c e
        (uses_then peers_told adjacencies_told (2 * length a.network.peers) (4 * length (adjacencies b.network)) a b c x y) (expire_uses c e z)

    -- between events again
    pub told_roomy : (a b c e : Here P S) → Uses peers_told (2 * length a.network.peers) a b → Uses adjacencies_told (4 * length (adjacencies b.network)) b c → Goes (λ n. deeds.expire P S wire n show now.0) c e →
        IsOn a.seen a.flow → KeepsOn (own_most a.network) a.network a.seen a.flow → IsRoomy a.network e.seen e.flow
    told_roomy a b c e x y z on keeps =
        let uses = told_uses a b c e x y z in
        let words = (2 * length a.network.peers + 4 * length (adjacencies b.network)) + 0 in
        ends_roomy a.network 0 e.seen e.flow
        (uses.keeps on.going on.at 0 (keeps_fewer a.network (words + 0) (own_most a.network) a.seen a.flow (omega (arith, ap (λ (n : NetworkParts). length (adjacencies n)) x.goes.network)) keeps))

  -- the event
  pub tick_done : (t : ℕ) (now : Tick) (f f1 : Flow) (a b c e : Here P S) → now ≡ record { 0 = events.later f.clock t } → ClearsSaid f f1 → a.flow ≡ record f1 { clock = now.0 } →
      Goes (peers_told now) a b → Goes (adjacencies_told now) b c → Goes (λ n. deeds.expire P S wire n show now.0) c e → IsDone (events.tick P S wire a.network show t (state_of a.seen f)) (Ok Done) e.seen e.flow
  tick_done t now f f1 a b c e now_is clears is x y z =
      let going : Tick → Going P S = λ (m : Tick). told_all m a.network (at_moment m.0 a.seen f) in
      let start : IsAt (at_moment now.0 a.seen f) a.seen a.flow = moment_is now.0 a.seen f f1 a.flow clears is in
      let all = goes_all x y z in
      let at : IsAt (going (record { 0 = events.later f.clock t })) e.seen e.flow = subst (λ (m : Tick). IsAt (going m) e.seen e.flow) now_is (all.goes (at_moment now.0 a.seen f) start) in
      record { answer = refl; state = at.state; said = at.said }
    where
      goes_all : Goes (peers_told now) a b → Goes (adjacencies_told now) b c → Goes (λ n. deeds.expire P S wire n show now.0) c e → Goes (told_all now) a e
      goes_all x' y' z' = goes_then (λ n g. adjacencies_told now n (peers_told now n g)) (λ n. deeds.expire P S wire n show now.0) a c e (goes_then (peers_told now) (adjacencies_told now) a b c x' y') z'
