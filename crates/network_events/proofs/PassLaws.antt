-- What a step takes away, or sets, leaves no queue less room.
use Rattle.std.proofs.Common.{◌≡◌, ◌≤◌, ℕ, Bool, true, false, cond, List, [], ◌∷◌, length, drop, refl, ap, sym, subst, ◌∙◌, arith, inl, inr}
use Rattle.std.proofs.lemmas.Bool.{cases_Bool}
use Rattle.pce_common.specs.plant_model.Types.{As, Peer, Outside, Inner, State as Session}
use Rattle.plant_queues.specs.Messages.{Spare, total}
use Rattle.plant_text.specs.Names.{same_as}
use Rattle.pce_common.specs.plant_model.Names.{set_pair}
use Rattle.pce_common.specs.plant_model.Wire.{Bytes}
use Rattle.pce_common.specs.plant_model.State.{Connection}
use Rattle.pce_common.specs.plant_model.Deeds.{with_session}
use Rattle.network_links.specs.Rooms.{Grows, Frees, queue, room_in_all}
use Rattle.network_links.specs.Flow.{Flow, ClearsSaid, DropsFirst, room_at, queue_at, out_of, set_session, set_session_at, change_access}
use Rattle.network_events.specs.Accounts.{queue_in}
use Rattle.network_events.proofs.GoLaws.{access_same, self, as_is}
use Rattle.network_events.proofs.PassRoom.{NoLess}

-- ---- what is said is cleared

as_before : (r : Spare) → Grows r r
as_before r = record { messages = omega arith; bytes = omega arith }

pub clear_no_less : (f f' : Flow) → ClearsSaid f f' → NoLess f f'
clear_no_less f f' x = subst (NoLess f) (sym x.kept) (record { there = there; in_all = in_all })
  where
    there : (at : As) (to : Peer) → Grows (room_at at to f) (room_at at to (record f { said = []; room = record f.room { said = f'.room.said } }))
    there at (Outside i) = as_before (f.room.outside i)
    there at (Inner b) = as_before (f.room.inner at b)

    in_all : (at : As) (to : Peer) → Grows (room_in_all (queue_in at to f)) (room_in_all (queue_in at to (record f { said = []; room = record f.room { said = f'.room.said } })))
    in_all at (Outside i) = as_before (room_in_all (queue_in at (Outside i) f))
    in_all at (Inner b) = as_before (room_in_all (queue_in at (Inner b) f))

pub clear_said_grows : (f f' : Flow) → ClearsSaid f f' → Grows f.room.said f'.room.said
clear_said_grows f f' x = record { messages = omega (arith, x.room.messages); bytes = omega (arith, x.room.bytes) }

-- ---- an outside peer's connection changes, and not what waits for it

pub access_no_less : (i : ℕ) (g : Connection → Connection) (f : Flow) → ((k : Connection) → (g k).out ≡ k.out) → NoLess f (change_access i g f)
access_no_less i g f same = record { there = there; in_all = in_all }
  where
    there : (at : As) (to : Peer) → Grows (room_at at to f) (room_at at to (change_access i g f))
    there at (Outside j) = as_before (f.room.outside j)
    there at (Inner b) = as_before (f.room.inner at b)

    queue_same : (at : As) (to : Peer) → queue_at at to (change_access i g f) ≡ queue_at at to f
    queue_same at (Outside j) = access_same out_of g i j f same
    queue_same at (Inner b) = refl

    in_all : (at : As) (to : Peer) → Grows (room_in_all (queue_in at to f)) (room_in_all (queue_in at to (change_access i g f)))
    in_all at to =
        let same_queue = queue_same at to in
        let more = there at to in
        record {
          messages = omega (arith, more.messages, ap length same_queue);
          bytes = omega (arith, more.bytes, ap (total (λ (m : Bytes). length m)) same_queue);
        }

-- ---- a message leaves an inner queue

pair_other : (b c : Bool) {A : Type 0} (v w : A) → cond b c false ≡ false → cond b (cond c v w) w ≡ w
pair_other true true v w e = cc
pair_other true false v w e = refl
pair_other false c v w e = refl

pair_hit : (b c : Bool) {A : Type 0} (v w : A) → cond b c false ≡ true → (b ≡ true) × (c ≡ true) × (cond b (cond c v w) w ≡ v)
pair_hit true true v w e = (refl, refl, refl)
pair_hit true false v w e = cc
pair_hit false c v w e = cc

fewer_bytes : (out : List Bytes) → total (λ (m : Bytes). length m) (drop 1 out) ≤ total (λ (m : Bytes). length m) out
fewer_bytes [] = omega arith
fewer_bytes (m ∷ out) = omega arith

fewer : (out : List Bytes) → length (drop 1 out) ≤ length out
fewer [] = omega arith
fewer (m ∷ out) = omega arith

freed : (out out' : List Bytes) (r r' : Spare) → out' ≡ drop 1 out → Frees (queue out r) (queue out' r') → Grows r r'
freed out out' r r' is x = record {
  messages = omega (arith, x.messages, ap length is, fewer out);
  bytes = omega (arith, x.bytes, ap (total (λ (m : Bytes). length m)) is, fewer_bytes out);
}

pub drop_no_less : (at to : As) (f f' : Flow) → DropsFirst at to f f' → NoLess f f'
drop_no_less at to f f' x = record { there = there; in_all = in_all }
  where
    queue_of : (a c : As) → f'.queues a c ≡ set_pair at to (drop 1 (f.queues at to)) f.queues a c
    queue_of a c = ap (λ (g : Flow). g.queues a c) x.kept

    room_of : (a c : As) → f'.room.inner a c ≡ set_pair at to (f'.room.inner at to) f.room.inner a c
    room_of a c = ap (λ (g : Flow). g.room.inner a c) x.kept

    here : f'.queues at to ≡ drop 1 (f.queues at to)
    here = queue_of at to ∙ (pair_hit (same_as at at) (same_as to to) (drop 1 (f.queues at to)) (f.queues at to) (ap (λ (b : Bool). cond b (same_as to to) false) (self at.0) ∙ self to.0)).2

    there : (a : As) (q : Peer) → Grows (room_at a q f) (room_at a q f')
    there a (Outside i) = subst (λ (g : Flow). Grows (f.room.outside i) (g.room.outside i)) (sym x.kept) (as_before (f.room.outside i))
    there a (Inner c) = elim (cases_Bool (cond (same_as at a) (same_as to c) false)) [
      | inl hit ↦
          let parts = pair_hit (same_as at a) (same_as to c) (f'.room.inner at to) (f.room.inner a c) hit in
          subst (λ (d : As). Grows (f.room.inner d c) (f'.room.inner d c)) (as_is at a parts.0) (subst (λ (d : As). Grows (f.room.inner at d) (f'.room.inner at d)) (as_is to c parts.1) (freed (f.queues at to) (f'.queues at to) (f.room.inner at to) (f'.room.inner at to) here x.room))
      | inr miss ↦
          let same : f'.room.inner a c ≡ f.room.inner a c = room_of a c ∙ pair_other (same_as at a) (same_as to c) (f'.room.inner at to) (f.room.inner a c) miss in
          subst (Grows (f.room.inner a c)) (sym same) (as_before (f.room.inner a c))
    ]

    in_all : (a : As) (q : Peer) → Grows (room_in_all (queue_in a q f)) (room_in_all (queue_in a q f'))
    in_all a (Outside i) = subst (λ (g : Flow). Grows (room_in_all (queue_in a (Outside i) f)) (room_in_all (queue_in a (Outside i) g))) (sym x.kept) (as_before (room_in_all (queue_in a (Outside i) f)))
    in_all a (Inner c) = elim (cases_Bool (cond (same_as at a) (same_as to c) false)) [
      | inl hit ↦
          let parts = pair_hit (same_as at a) (same_as to c) (f'.room.inner at to) (f.room.inner a c) hit in
          subst (λ (d : As). Grows (room_in_all (queue_in d (Inner c) f)) (room_in_all (queue_in d (Inner c) f'))) (as_is at a parts.0)
          (subst (λ (d : As). Grows (room_in_all (queue_in at (Inner d) f)) (room_in_all (queue_in at (Inner d) f'))) (as_is to c parts.1) (record { messages = x.room.messages; bytes = x.room.bytes }))
      | inr miss ↦
          let same : f'.room.inner a c ≡ f.room.inner a c = room_of a c ∙ pair_other (same_as at a) (same_as to c) (f'.room.inner at to) (f.room.inner a c) miss in
          let same_queue : f'.queues a c ≡ f.queues a c = queue_of a c ∙ pair_other (same_as at a) (same_as to c) (drop 1 (f.queues at to)) (f.queues a c) miss in
          record {
            messages = omega (arith, ap (λ (r : Spare). r.messages) same, ap length same_queue);
            bytes = omega (arith, ap (λ (r : Spare). r.bytes) same, ap (total (λ (m : Bytes). length m)) same_queue);
          }
    ]

pub session_no_less : (at : As) (p : Peer) (s : Session) (f : Flow) → NoLess f (set_session_at at p s f)
session_no_less at (Outside i) s f = access_no_less i (with_session s) f (λ k. refl)
session_no_less at (Inner b) s f = record { there = there; in_all = in_all }
  where
    there : (a : As) (q : Peer) → Grows (room_at a q f) (room_at a q (set_session at b s f))
    there a (Outside i) = as_before (f.room.outside i)
    there a (Inner c) = as_before (f.room.inner a c)

    in_all : (a : As) (q : Peer) → Grows (room_in_all (queue_in a q f)) (room_in_all (queue_in a q (set_session at b s f)))
    in_all a (Outside i) = as_before (room_in_all (queue_in a (Outside i) f))
    in_all a (Inner c) = as_before (room_in_all (queue_in a (Inner c) f))
