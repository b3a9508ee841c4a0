-- How many requests are pending, by their askers.
use Rattle.std.specs.Prelude.{ℕ, ◌+◌, Bool, true, cond, List, [], ◌∷◌, length, filter}
use Rattle.plant_model.specs.Types.{As, Peer, Message, Held}
use Rattle.pcep_messages.specs.declared.message.Message.TheVariants as messages
use Rattle.request_table.specs.Pending.{same_peer}
use Rattle.plant_text.specs.Names.{same_as, parent_as}
use Rattle.pce_common.specs.Membership.{Membership}

-- the requests of those askers that pass a test
abbrev pub count_by_asker : {T : Type 0} → (Peer → Bool) → List (ℕ × Held T) → ℕ
count_by_asker test rows = length (filter (λ h. test h.1.key.peer) rows)

abbrev pub is_peer : Peer → Peer → Bool
is_peer p q = same_peer q p

-- how many requests a message asks for
abbrev pub asked_in : Message → ℕ
asked_in (messages.PcReq asks) = length asks
asked_in (messages.PcRep replies) = 0
asked_in (messages.PcNtf notices) = 0
asked_in (messages.PcErr reports) = 0
asked_in (messages.Open body) = 0
asked_in messages.Keepalive = 0
asked_in (messages.Close reason) = 0
asked_in (messages.Other kind) = 0

module _ {P : Type 0} {S : Type 0} where
  abbrev pub count_at : (Peer → Bool) → As → Membership P S → ℕ
  count_at test at ms = cond (same_as at parent_as) (count_by_asker test ms.parent.pending.rows) (count_by_asker test (ms.elements at).pending.rows)

  -- How many requests of that peer are pending at a member. Each may be answered once, at any moment.
  abbrev pub owed : As → Peer → Membership P S → ℕ
  owed at p ms = count_at (is_peer p) at ms

  -- all that are pending at these elements, and at these and the parent
  abbrev pub pending_at : List As → Membership P S → ℕ
  pending_at [] ms = 0
  pending_at (d ∷ ds) ms = length (ms.elements d).pending.rows + pending_at ds ms

  abbrev pub pending_in : List As → Membership P S → ℕ
  pending_in ds ms = length ms.parent.pending.rows + pending_at ds ms
