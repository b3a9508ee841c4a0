-- What an event of an outside peer changes in the flow, whatever the elements are.
use Rattle.std.specs.Prelude.{◌≡◌, ◌==◌, ℕ, Bool, true, false, List, [], ◌∷◌, Option, Some, None, Result, Ok, Err, OnOk, OnErr}
use Rattle.plant_model.specs.declared.outcome.Outcome.TheVariants.{Done, Drained}
use Rattle.plant_model.specs.declared.outcome.Refused.{Refused}
use Rattle.plant_model.specs.declared.outcome.Refused.TheVariants.{NoSuchPeer, NotHolder, NoMemory}
use Rattle.plant_model.specs.Names.{set_number}
use Rattle.plant_model.specs.Wire.{Bytes}
use Rattle.plant_model.specs.State.{Connection, Deed, Hands}
use Rattle.plant_model.specs.Events.{Answered, is_down, drained}
use Rattle.network_links.specs.Ends.{fed_while_up}
use Rattle.network_links.specs.Rooms.{Frees, queue}
use Rattle.network_links.specs.declared.peers.Drained.{Drained as Handed}
use Rattle.network_links.specs.Accesses.{IsDrained}
use Rattle.network_links.specs.Flow.{Flow, change_access}

-- ---- a feed

pub record FeedsOpenIn (i : ℕ) (piece : Bytes) (x : Connection) (old : Flow) (r : Result (Unit {0}) Refused) (new : Flow) : Type 0 where
  pub ok : OnOk r (new ≡ change_access i (fed_while_up piece) old)
  pub err : OnErr r ((r ≡ Err NoMemory) × (new ≡ old))
  pub over : OnErr r (is_down x.session.phase ≡ false)

abbrev pub FeedsConnectionIn : ℕ → Bytes → Option Connection → Flow → Result (Unit {0}) Refused → Flow → Type 0
FeedsConnectionIn i piece None old r new = (r ≡ Err NoSuchPeer) × (new ≡ old)
FeedsConnectionIn i piece (Some x) old r new = FeedsOpenIn i piece x old r new

abbrev pub FeedsIn : ℕ → Bytes → Flow → Result (Unit {0}) Refused → Flow → Type 0
FeedsIn i piece old r new = FeedsConnectionIn i piece (old.accesses i).connection old r new

abbrev pub done_of : Result (Unit {0}) Refused → Answered
done_of (Ok u) = Ok Done
done_of (Err why) = Err why

-- ---- a drain

pub record DrainsOpenIn (i : ℕ) (x : Connection) (old : Flow) (r : Result Handed Refused) (new : Flow) : Type 0 where
  pub bytes : IsDrained x r
  pub ok : OnOk r (new ≡ record (change_access i drained old) { room = record old.room { outside = set_number i (new.room.outside i) old.room.outside } })
  pub room : OnOk r (Frees (queue x.out (old.room.outside i)) (queue [] (new.room.outside i)))
  pub err : OnErr r ((r ≡ Err NoMemory) × (new ≡ old))

abbrev pub DrainsHeldIn : ℕ → Bool → Connection → Flow → Result Handed Refused → Flow → Type 0
DrainsHeldIn i false x old r new = (r ≡ Err (NotHolder x.holder)) × (new ≡ old)
DrainsHeldIn i true x old r new = DrainsOpenIn i x old r new

abbrev pub DrainsConnectionIn : ℕ → ℕ → Option Connection → Flow → Result Handed Refused → Flow → Type 0
DrainsConnectionIn i holder None old r new = (r ≡ Err NoSuchPeer) × (new ≡ old)
DrainsConnectionIn i holder (Some x) old r new = DrainsHeldIn i (x.holder == holder) x old r new

abbrev pub DrainsIn : ℕ → ℕ → Flow → Result Handed Refused → Flow → Type 0
DrainsIn i holder old r new = DrainsConnectionIn i holder (old.accesses i).connection old r new

abbrev pub drained_of : Result Handed Refused → Answered
drained_of (Ok d) = Ok (Drained d.bytes d.ended)
drained_of (Err why) = Err why

abbrev pub hands_of : {S : Type 0} → ℕ → Result Handed Refused → List (Deed S)
hands_of i (Ok d) = Hands i d.bytes ∷ []
hands_of i (Err why) = []
