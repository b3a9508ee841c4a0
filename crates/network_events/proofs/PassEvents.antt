-- What a member that is given a message owes, and what was said before is cleared.
use Rattle.std.proofs.Common.{◌≡◌, ◌≤◌, ℕ, zero, suc, ◌+◌, cond, Option, Some, None, List, [], ◌∷◌, length, ap, sym, subst, ◌∙◌, arith}
use Rattle.std.specs.Prelude.{slice_get}
use Rattle.pce_common.specs.plant_model.Types.{As, Peer, Hop, Message, Sent, NetworkParts}
use Rattle.plant_text.specs.Names.{same_as}
use Rattle.plant_text.specs.Settings.{elements_of}
use Rattle.pce_common.specs.plant_model.declared.output.Output.{Output}
use Rattle.pce_common.specs.plant_model.RealWire.{wire}
use Rattle.pce_common.specs.plant_model.State.{sent_by}
use Rattle.network_links.specs.Flow.{Flow, ClearsSaid}
use Rattle.network_events.specs.Giving.{IsGiven, OnlyGrows, own_words}
use Rattle.pce_common.specs.Membership.{Membership, given}
use Rattle.pce_common.specs.Owed.{asked_in, owed, is_peer, pending_in}
use Rattle.network_events.specs.Passing.{IsOf}
use Rattle.network_events.specs.Rooms.{own_most}
use Rattle.network_events.proofs.OwedLaws.{given_count}
use Rattle.network_events.proofs.PassPending.{given_pending}

pub from_at : (at : As) (os : List Output) (k : ℕ) (s : Sent) → slice_get (sent_by wire at os) k ≡ Some s → s.from ≡ at
from_at at [] k s e = cc
from_at at (o ∷ os) zero s e = first s e
  where
    first : (x : Sent) → Some (record { from = at; to = o.to; bytes = wire.text o.message }) ≡ Some x → x.from ≡ at
    first x e' = sym (ap sender e')
      where
        sender : Option Sent → As
        sender None = at
        sender (Some y) = y.from
from_at at (o ∷ os) (suc k) s e = from_at at os k s e

pub own_is : (n : NetworkParts) (start made : Flow) → IsOf n start → OnlyGrows start made → own_words made ≡ own_most n
own_is n start made of grows =
    omega (arith, ap (λ (f : Flow). f.peers) grows.same, of.peers_are, ap (λ (f : Flow). length f.adjacencies) grows.same, ap length of.adjacencies_are)

-- nothing but what was said has changed
pub cleared_is : (start made cleared : Flow) → OnlyGrows start made → ClearsSaid made cleared → cleared ≡ record start { said = []; room = cleared.room }
cleared_is start made cleared grows clears =
    clears.kept ∙ ap (λ (f : Flow). record f { said = []; room = record made.room { said = cleared.room.said } }) grows.same
    ∙ ap (λ (r : _). record start { said = []; room = r }) (sym (ap (λ (f : Flow). f.room) clears.kept))

module _ {P : Type 0} {S : Type 0} (show : S → List Hop) (n : NetworkParts) (at : As) (p : Peer) (m : Message) (ms mid : Membership P S) (letters : List Sent) (now : ℕ) (is_given : IsGiven n show at p now m ms mid letters) where
  pub from_is : (k : ℕ) (s : Sent) → slice_get letters k ≡ Some s → s.from ≡ at
  from_is k s found = from_at at (given wire n show at p now m ms).outputs k s (ap (λ (ss : List Sent). slice_get ss k) (sym is_given.letters_are) ∙ found)

  pub owed_is : (a : As) (q : Peer) → owed a q mid ≤ owed a q ms + cond (same_as at a) (cond (is_peer q p) (asked_in m) 0) 0
  owed_is a q = subst (λ (x : Membership P S). owed a q x ≤ owed a q ms + cond (same_as at a) (cond (is_peer q p) (asked_in m) 0) 0) (sym is_given.members) (given_count (is_peer q) wire n show at a p now m ms)

  pub pending_is : pending_in (elements_of n.elements) mid ≤ pending_in (elements_of n.elements) ms + asked_in m
  pending_is = subst (λ (x : Membership P S). pending_in (elements_of n.elements) x ≤ pending_in (elements_of n.elements) ms + asked_in m) (sym is_given.members) (given_pending wire n show at p now m ms n.elements)
