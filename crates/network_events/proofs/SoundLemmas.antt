-- What a network keeps from event to event.
use Rattle.std.proofs.Common.{◌≡◌, ◌≤◌, ◌<◌, ◌^◌, ℕ, true, false, length, sym, subst, inl, inr, le_trans, le_refl, le_of_lt}
use Rattle.std.proofs.lemmas.Bool.{cases_lt, lt-ltb, le-ltb}
use Rattle.pce_common.specs.plant_model.Types.{As, NetworkParts}
use Rattle.plant_text.specs.Names.{parent_as, same_as}
use Rattle.plant_text.specs.Settings.{has_adjacency, is_element, adjacencies}
use Rattle.pce_common.specs.plant_model.Events.{Answered, later}
use Rattle.pce_common.specs.Membership.{AreJoined, KeysBefore}
use Rattle.network_events.specs.Standing.{Here}
use Rattle.plant_laws.specs.Lasting.{AreInOrder, KeysInTime}
use Rattle.network_events.specs.Whole.{Step}
use Rattle.network_events.specs.Moving.{IsSound, Moves, whole}

later_least : (now t : ℕ) → now ≤ later now t
later_least now t = elim (cases_lt now t) [ inl lt ↦ rw (lt-ltb now t lt) (le_of_lt lt) | inr ge ↦ rw (le-ltb now t ge) (le_refl now) ]

module _ {P : Type 0} {S : Type 0} where
  -- a network that is sound stays so, where its tables stay in order and its keys in time
  pub sound_after : (step : Step P S) (old new : Here P S) (told : Answered) → IsSound old → Moves step old told new → AreInOrder (whole new).state → KeysInTime (whole new).state → IsSound new
  sound_after step old new told sound moves order keys =
      let same = sym moves.stepped.network in
      record {
        joined = subst AreJoined same sound.joined;
        apart = subst (λ (n : NetworkParts). (a b : As) → has_adjacency a b (adjacencies n) ≡ true → same_as a b ≡ false) same sound.apart;
        below = subst (λ (n : NetworkParts). (d : As) → is_element n d ≡ true → same_as d parent_as ≡ false) same sound.below;
        few = subst (λ (n : NetworkParts). length n.peers < 2 ^ 32) same sound.few;
        kept = moves.kept;
        order = order;
        keys = keys;
      }

  -- no key was issued after a later moment
  pub keys_before : (h : Here P S) (t : ℕ) → IsSound h → KeysBefore (later h.flow.clock t) h.network h.seen
  keys_before h t sound = λ d is. le_trans (sound.keys d) (later_least h.flow.clock t)
