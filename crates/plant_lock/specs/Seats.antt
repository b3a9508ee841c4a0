-- A turnstile and its seats, as contracts see them.
use Rattle.std.specs.Prelude.{◌≡◌, ℕ, List}
use Rattle.plant_lock.specs.declared.seat.TurnSeat.{TurnSeat}
use Rattle.plant_lock.specs.declared.seat.Turnstile.{Turnstile}
use Rattle.plant_lock.specs.declared.turned.Turned.{Ghosts}
use Rattle.plant_lock.specs.declared.view.View.{View}
use Rattle.plant_lock.specs.History.{Admitted, entries_at}
use Rattle.plant_lock.specs.Views.{LegalFrom, Adds, Leaves}

-- the number of shares of all seats together
abbrev pub seats_of : {T A B : Type 0} → Turnstile T A B → ℕ
seats_of t = t.table.shared.key.seats

module _ {T A B : Type 0} {g : Ghosts T A B} where
  -- the seat is one of this turnstile
  abbrev pub IsAt : Turnstile T A B → TurnSeat T A B g → Type 0
  IsAt t s = s.seat.table_id ≡ t.table.shared.table_id

  -- all that the seat knows
  abbrev pub view_of : TurnSeat T A B g → View T A B
  view_of s = s.seat.me.0

  abbrev pub shares_of : TurnSeat T A B g → ℕ
  shares_of s = s.seat.me.0.shares

  -- the beginning of the history that it has seen
  abbrev pub seen_by : TurnSeat T A B g → List (A × B)
  seen_by s = s.seat.me.0.seen

  -- the places of its own entries
  abbrev pub places_of : TurnSeat T A B g → List ℕ
  places_of s = s.seat.me.0.places

  -- its own entries, in their order
  abbrev pub own_entries : TurnSeat T A B g → List (A × B)
  own_entries s = entries_at s.seat.me.0.seen s.seat.me.0.places

  -- the ticket word that it last met
  abbrev pub met_by : TurnSeat T A B g → ℕ
  met_by s = s.seat.me.0.met

  -- both know of the same value at the opening
  abbrev pub SameStart : TurnSeat T A B g → TurnSeat T A B g → Type 0
  SameStart s t = s.seat.me.0.start ≡ t.seat.me.0.start

  -- every state admits the act, or an entry that the seat has seen warrants it
  abbrev pub MayDo : TurnSeat T A B g → A → Type 0
  MayDo s act = Admitted g.admits g.warrants s.seat.me.0.seen act

  -- the history is legal from the value that the turnstile was opened with
  abbrev pub IsLegal : TurnSeat T A B g → List (A × B) → Type 0
  IsLegal s h = LegalFrom g.plain g.admits g.allows g.after s.seat.me.0.start h

  -- in a turn that took the seat s to t the act was done at the place n, with this answer
  abbrev pub Did : TurnSeat T A B g → A → ℕ → B → TurnSeat T A B g → Type 0
  Did s act n answer t = Adds g.plain g.admits g.allows g.after s.seat.me.0 act n answer t.seat.me.0

  -- the value is what a legal history leaves that begins with what the seat has seen, and each of whose places is the seat's own
  abbrev pub IsLeft : TurnSeat T A B g → T → Type 0
  IsLeft s x = Leaves g.plain g.admits g.allows g.after s.seat.me.0 (g.plain x)
