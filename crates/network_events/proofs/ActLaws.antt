-- What one action of a session is in the model, and the room that it leaves for the next.
use Rattle.std.proofs.Common.{◌≡◌, ℕ, ◌*◌, Bool, true, false, cond, is_some, Option, Some, None, List, [], ◌∷◌, refl, ap, sym, subst, ◌∙◌, arith, inl, inr}
use Rattle.std.proofs.lemmas.Bool.{cases_Bool}
use Rattle.pce_common.specs.plant_model.Types.{As, Peer, Outside, Inner, Hop, Action, Own, NetworkParts}
use Rattle.pcep_session.specs.declared.actions.Action.TheVariants as action
use Rattle.pcep_session.specs.declared.actions.Reason.{Reason}
use Rattle.request_table.specs.Pending.{same_peer}
use Rattle.plant_queues.specs.Messages.{Spare, Covers}
use Rattle.pce_common.specs.plant_model.declared.output.Lost.{Lost}
use Rattle.pce_common.specs.plant_model.Names.{is_empty}
use Rattle.pce_common.specs.plant_model.Wire.{Bytes}
use Rattle.pce_common.specs.plant_model.RealWire.{wire}
use Rattle.pce_common.specs.plant_model.State.{Connection}
use Rattle.pce_common.specs.plant_model.Deeds as deeds
use Rattle.pce_common.specs.plant_model.Deeds.{Going, element_of, is_out_empty, is_due, with_inbox}
use Rattle.network_links.specs.Ends.{own_bytes, is_left_out}
use Rattle.network_links.specs.Flow.{Flow, Puts, change_access, out_of, room_at, queue_at}
use Rattle.network_events.specs.Accounts.{Accounts, has_queue}
use Rattle.pce_common.specs.Membership.{Membership, lost_at}
use Rattle.pce_common.specs.Owed.{is_peer}
use Rattle.network_events.specs.Standing.{Here, here_of, Goes, state_of}
use Rattle.network_events.specs.Telling.{RoomToTell, count_lost}
use Rattle.network_events.specs.Acting.{Spent, RoomToAct, Fits, LeavesOff, RoomFor, lost_by}
use Rattle.network_events.specs.Peers.{act_at, acts_at, down_at, is_out_empty_at}
use Rattle.network_events.proofs.GoLaws.{access_same, goes_as, goes_then, goes_same, goes_say, peer_is, put_case}
use Rattle.network_events.proofs.TellLaws.{into_peer}
use Rattle.network_events.proofs.LinkLaws.{accounts_like}

-- ---- a connection that changes but for its queue

pub access_accounts : (i : ℕ) (h : Connection → Connection) (f : Flow) → ((x : Connection) → (h x).out ≡ x.out) → Accounts f (change_access i h f)
access_accounts i h f out = accounts_like f (change_access i h f) rooms queues open' refl refl
  where
    rooms : (a : As) (q : Peer) → room_at a q (change_access i h f) ≡ room_at a q f
    rooms a (Outside j) = refl
    rooms a (Inner c) = refl

    queues : (a : As) (q : Peer) → queue_at a q (change_access i h f) ≡ queue_at a q f
    queues a (Inner c) = refl
    queues a (Outside j) = access_same out_of h i j f out

    open' : (q : Peer) → has_queue q (change_access i h f) ≡ has_queue q f
    open' (Inner c) = refl
    open' (Outside j) = access_same is_some h i j f (λ x. refl)

-- ---- the room of one action

-- what is left out takes no room
pub spent_less : (at : As) (to : Peer) (m : Bytes) (f : Flow) → Spent at to (m ∷ []) f f
spent_less at to m f = record { messages = omega arith; bytes = omega arith; said = omega arith; said_bytes = omega arith; elsewhere = λ q miss. refl }

pub puts_spent : (at : As) (to : Peer) (m : Bytes) (f f' : Flow) → Puts at to m f f' → Spent at to (m ∷ []) f f'
puts_spent at to m f f' puts = record {
  messages = omega (arith, puts.room.there.messages);
  bytes = omega (arith, puts.room.there.bytes);
  said = omega (arith, puts.room.said.messages);
  said_bytes = omega (arith, puts.room.said.bytes);
  elsewhere = λ q miss. let case = put_case at to m f f' puts at q in case.miss (into_peer at to q m ∙ miss);
}

pub room_access : (at : As) (ls : List Lost) (i : ℕ) (h : Connection → Connection) (f : Flow) → RoomToTell at ls f → RoomToTell at ls (change_access i h f)
room_access at ls i h f room = record { there = there; said = record { messages = room.said.messages; bytes = room.said.bytes } }
  where
    there : (q : Peer) → Covers (room_at at q (change_access i h f)) (count_lost (is_peer q) ls) (32 * count_lost (is_peer q) ls)
    there (Outside j) = room.there (Outside j)
    there (Inner b) = room.there (Inner b)

-- no action needs no room
pub act_none : (at : As) (to : Peer) (f : Flow) → RoomToAct at to [] [] f
act_none at to f = record {
  there = record { messages = omega arith; bytes = omega arith };
  none = refl;
  elsewhere = λ q miss. record { messages = omega arith; bytes = omega arith };
  said = record { messages = omega arith; bytes = omega arith };
}

-- room to fall, where that comes last
room_to_fall : (at : As) (to : Peer) (why : Reason) (ls : List Lost) (f : Flow) → RoomToAct at to (action.Down why ∷ []) ls f → RoomToTell at ls f
room_to_fall at to why ls f room = record {
  there = λ q. elim (cases_Bool (same_peer to q)) [
    | inl hit ↦
        let none : count_lost (is_peer q) ls ≡ 0 = subst (λ (p : Peer). count_lost (is_peer p) ls ≡ 0) (peer_is to q hit) room.none in
        record { messages = omega (arith, none); bytes = omega (arith, none) }
    | inr miss ↦ room.elsewhere q miss
  ];
  said = record { messages = omega (arith, room.said.messages); bytes = omega (arith, room.said.bytes) };
}

module _ {P : Type 0} {S : Type 0} (at : As) (to : Peer) where
  -- the room of all is enough for the first
  pub room_for : (a : Action) (rest : List Action) (ms : Membership P S) (f : Flow) → Fits at to (a ∷ rest) ms f → RoomFor at to a ms f
  room_for (action.Send o) rest ms f fits =
      let there = fits.room.there in
      let said = fits.room.said in
      (record { messages = omega (arith, there.messages); bytes = omega (arith, there.bytes) }, record { messages = omega (arith, said.messages); bytes = omega (arith, said.bytes) })
  room_for action.Up rest ms f fits = tt
  room_for (action.Down why) rest ms f fits =
      room_to_fall at to why (lost_at at to ms) f (subst (λ (as' : List Action). RoomToAct at to (action.Down why ∷ as') (lost_at at to ms) f) fits.turn fits.room)
  room_for (action.Pass m) rest ms f fits = absurd fits.turn

  -- where nothing is left, nothing needs room
  last_fits : (rest : List Action) (ms : Membership P S) (f : Flow) → rest ≡ [] → Fits at to rest ms f
  last_fits rest ms f last = subst (λ (as' : List Action). Fits at to as' ms f) (sym last) (record { turn = tt; room = act_none at to f })

  -- what it leaves is what the rest need
  pub rest_fits : (a : Action) (rest : List Action) (ms ms' : Membership P S) (f f' : Flow) → Fits at to (a ∷ rest) ms f → LeavesOff at to a ms f ms' f' → Fits at to rest ms' f'
  rest_fits (action.Send o) rest ms ms' f f' fits leaves =
      let room = fits.room in
      let spent = leaves.1 in
      let ls = lost_by rest (lost_at at to ms) in
      subst (λ (x : Membership P S). Fits at to rest x f') (sym leaves.0) (record {
        turn = fits.turn;
        room = record {
          there = record { messages = omega (arith, room.there.messages, spent.messages); bytes = omega (arith, room.there.bytes, spent.bytes) };
          none = room.none;
          elsewhere = λ q miss. subst (λ (x : Spare). Covers x (count_lost (is_peer q) ls) (32 * count_lost (is_peer q) ls)) (sym (spent.elsewhere q miss)) (room.elsewhere q miss);
          said = record { messages = omega (arith, room.said.messages, spent.said); bytes = omega (arith, room.said.bytes, spent.said_bytes) };
        };
      })
  rest_fits action.Up rest ms ms' f f' fits leaves = last_fits rest ms' f' fits.turn
  rest_fits (action.Down why) rest ms ms' f f' fits leaves = last_fits rest ms' f' fits.turn
  rest_fits (action.Pass m) rest ms ms' f f' fits leaves = absurd fits.turn

module _ {P : Type 0} {S : Type 0} (show : S → List Hop) (n : NetworkParts) (ms : Membership P S) (lost : As → List Lost) where
  pub out_empty : (at : As) (to : Peer) (f : Flow) → is_out_empty_at P S n show at to (state_of ms f) ≡ is_empty (queue_at at to f)
  out_empty at (Inner b) f = refl
  out_empty at (Outside i) f = go (f.accesses i).connection
    where
      go : (c : Option Connection) → is_out_empty c ≡ is_empty (out_of c)
      go None = refl
      go (Some x) = refl

  -- a connection that changes but for its queue
  pub goes_access : (i : ℕ) (h : Connection → Connection) (f : Flow) → ((x : Connection) → (h x).out ≡ x.out) →
      Goes (λ k g. record { state = deeds.with_access P S wire k show i h g.state; deeds = g.deeds }) (here_of n ms lost f) (here_of n ms lost (change_access i h f))
  goes_access i h f out = record {
    network = refl;
    lost = λ none. none;
    adjacencies = refl;
    peers = refl;
    room = access_accounts i h f out;
    goes = λ g is. record { state = ap (deeds.with_access P S wire n show i h) is.state; said = is.said };
  }

  -- a message of a session's own is left out, or said
  own_said : (at : As) (to : Peer) (ticks : Bool) (o : Own) (f f' : Flow) (b : Bool) → is_left_out ticks o (queue_at at to f) ≡ b → Goes (λ k g. cond b g (deeds.say P S wire k show at to o g)) (here_of n ms lost f) (here_of n ms lost f') →
      Goes (λ k. act_at P S k show at to ticks (action.Send o)) (here_of n ms lost f) (here_of n ms lost f')
  own_said at to ticks o f f' b left =
      goes_as (λ k g. cond b g (deeds.say P S wire k show at to o g)) (λ k. act_at P S k show at to ticks (action.Send o)) (here_of n ms lost f) (here_of n ms lost f')
      (λ g is. ap (λ (c : Bool). cond c g (deeds.say P S wire n show at to o g)) (sym left ∙ ap (λ (c : Bool). cond ticks (cond (is_due o) (cond c false true) false) false) (sym (out_empty at to f) ∙ ap (is_out_empty_at P S n show at to) is.state)))

  pub own_left : (at : As) (to : Peer) (ticks : Bool) (o : Own) (f : Flow) → is_left_out ticks o (queue_at at to f) ≡ true → Goes (λ k. act_at P S k show at to ticks (action.Send o)) (here_of n ms lost f) (here_of n ms lost f)
  own_left at to ticks o f left = own_said at to ticks o f f true left (goes_same (here_of n ms lost f))

  pub own_put : (at : As) (to : Peer) (ticks : Bool) (o : Own) (f f' : Flow) → is_left_out ticks o (queue_at at to f) ≡ false → Puts at to (own_bytes o) f f' → Goes (λ k. act_at P S k show at to ticks (action.Send o)) (here_of n ms lost f) (here_of n ms lost f')
  own_put at to ticks o f f' left puts = own_said at to ticks o f f' false left (goes_say show n ms lost at to o f f' puts)

  -- an outside session goes down
  pub outside_falls : (i : ℕ) (at : As) (f : Flow) (after : Here P S) → Goes (λ k. deeds.fall P S wire k show at (Outside i)) (here_of n ms lost (change_access i (with_inbox []) f)) after → Goes (λ k. down_at P S k show at (Outside i)) (here_of n ms lost f) after
  outside_falls i at f after =
      goes_then (λ k g. record { state = deeds.with_access P S wire k show i (with_inbox []) g.state; deeds = g.deeds }) (λ k. deeds.fall P S wire k show at (Outside i))
      (here_of n ms lost f) (here_of n ms lost (change_access i (with_inbox []) f)) after (goes_access i (with_inbox []) f (λ x. refl))

-- the actions of the model
module _ {P : Type 0} {S : Type 0} (show : S → List Hop) (n : NetworkParts) (ticks : Bool) where
  pub acts_outside : (i : ℕ) (as' : List Action) (g : Going P S) → acts_at P S n show (element_of n i) (Outside i) ticks as' g ≡ deeds.outside_acts P S wire n show i ticks as' g
  acts_outside i [] g = refl
  acts_outside i (action.Send o ∷ as') g = acts_outside i as' (deeds.outside_act P S wire n show i ticks (action.Send o) g)
  acts_outside i (action.Up ∷ as') g = acts_outside i as' (deeds.outside_act P S wire n show i ticks action.Up g)
  acts_outside i (action.Down why ∷ as') g = acts_outside i as' (deeds.outside_act P S wire n show i ticks (action.Down why) g)
  acts_outside i (action.Pass m ∷ as') g = acts_outside i as' (deeds.outside_act P S wire n show i ticks (action.Pass m) g)

  pub acts_inner : (at b : As) (as' : List Action) (g : Going P S) → acts_at P S n show at (Inner b) ticks as' g ≡ deeds.inner_acts P S wire n show at b ticks as' g
  acts_inner at b [] g = refl
  acts_inner at b (action.Send o ∷ as') g = acts_inner at b as' (deeds.inner_act P S wire n show at b ticks (action.Send o) g)
  acts_inner at b (action.Up ∷ as') g = acts_inner at b as' (deeds.inner_act P S wire n show at b ticks action.Up g)
  acts_inner at b (action.Down why ∷ as') g = acts_inner at b as' (deeds.inner_act P S wire n show at b ticks (action.Down why) g)
  acts_inner at b (action.Pass m ∷ as') g = acts_inner at b as' (deeds.inner_act P S wire n show at b ticks (action.Pass m) g)
