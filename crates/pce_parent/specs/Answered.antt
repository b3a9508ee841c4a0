-- The wait to which a reply is the answer.
use Rattle.std.specs.Prelude.{◌≡◌, ◌<◌, ◌++◌, ℕ, suc, true, List, length, take, drop, Some, slice_get}
use Rattle.pce_common.specs.plant_model.Types.{Peer, Branch}
use Rattle.pce_common.specs.plant_model.Parent.{Wait, among, rows_at, rows_for, without}

-- this one is answered: the branches of the answer are rows from its child to its target
pub record Answers (p : Peer) (y : ℕ) (w : Wait) (ws : List Wait) : Type 0 where
  pub waits : among p ws y ≡ true
  pub rows : (bs : List Branch) → rows_for p y bs ws ≡ rows_at w.child w.target bs

-- and it stands at this place
pub record IsAnsweredAt (p : Peer) (y i : ℕ) (ws : List Wait) : Type 0 where
  pub within : i < length ws
  pub wait : Wait
  pub here : slice_get ws i ≡ Some wait
  pub answers : Answers p y wait ws
  pub rest : without p y ws ≡ take i ws ++ drop (suc i) ws
