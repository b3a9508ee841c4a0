-- What a seat knows of its turnstile, and how that changes at an opening, a turn, a split, a join and a close.
use Rattle.std.specs.Prelude.{◌≡◌, ℕ, ◌+◌, ◌-◌, ◌^◌, ◌<◌, List, [], ◌∷◌, ◌++◌, length, Option, Some, None, if◌then◌else◌, ltb}
use Rattle.plant_lock.specs.declared.view.View.{View}
use Rattle.plant_lock.specs.declared.view.SeatStage.TheVariants.{Idle}
use Rattle.plant_lock.specs.History.{replay, Legal, StartsWith, longer, times, once_below}

module _ {T A B : Type 0} where
  -- the first seat
  abbrev pub opened : T → ℕ → View T A B
  opened x n = record { start = Some x; seen = []; told = []; places = []; shares = n; met = 0; stage = Idle }

  -- what a seat keeps that gives one share away
  abbrev pub kept_half : View T A B → View T A B
  kept_half v = record v { shares = v.shares - 1 }

  -- what the new seat gets
  abbrev pub given_half : View T A B → View T A B
  given_half v = record { start = v.start; seen = v.seen; told = v.told; places = []; shares = 1; met = v.met; stage = Idle }

  -- v after w was joined to it: the greater word met, and the places and shares of both. What w had seen is told
  abbrev pub both : View T A B → View T A B → View T A B
  both v w = record v { told = w.seen; places = v.places ++ w.places; shares = v.shares + w.shares; met = (if ltb v.met w.met then w.met else v.met) }

  -- the same, with the longer of the two beginnings of the history as what is seen
  abbrev pub joined : View T A B → View T A B → View T A B
  joined v w = record (both v w) { seen = longer v.seen w.seen }

  -- what is left of a seat that was joined to another
  abbrev pub gone : View T A B
  gone = record { start = None; seen = []; told = []; places = []; shares = 0; met = 0; stage = Idle }

module _ {T S A B : Type 0} (plain : T → S) (admits : S → A → Type 0) (allows : S → A → B → Type 0) (after : S → A → B → S) where
  -- the history is legal from the value that the turnstile was opened with
  abbrev pub LegalFrom : Option T → List (A × B) → Type 0
  LegalFrom (Some x) h = Legal admits allows after (plain x) h
  LegalFrom None h = ⊥

  -- y is the state that the history leaves
  abbrev pub LeadsTo : Option T → List (A × B) → S → Type 0
  LeadsTo (Some x) h y = y ≡ replay after (plain x) h
  LeadsTo None h y = ⊥

  -- In a turn the act a was done at the place n and answered by b, which took the seat from v to w.
  pub record Adds (v : View T A B) (a : A) (n : ℕ) (b : B) (w : View T A B) : Type 0 where
    -- what was done since the seat last looked
    pub between : List (A × B)
    pub grown : w.seen ≡ (v.seen ++ between) ++ (a, b) ∷ []
    pub at : n ≡ length (v.seen ++ between)
    pub own : w.places ≡ v.places ++ n ∷ []
    pub legal : LegalFrom w.start w.seen
    pub same_start : w.start ≡ v.start
    pub same_shares : w.shares ≡ v.shares
    pub drawn : (w.met ≡ n) × (n < 2 ^ 63)

  -- At a close y is the state that a legal history leaves. It begins with what the seat has seen, and each of its places is once one of the seat's own.
  pub record Leaves (v : View T A B) (y : S) : Type 0 where
    pub history : List (A × B)
    pub begins : StartsWith history v.seen
    pub legal : LegalFrom v.start history
    pub left : LeadsTo v.start history y
    pub placed : (x : ℕ) → times x v.places ≡ once_below x (length history)
