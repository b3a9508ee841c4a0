use Rattle.std.proofs.Common.{ap, sym, subst, ◌∙◌, ◌≡◌, Some, ℕ, ◌++◌}
use Rattle.plant_lock.specs.Views.{LegalFrom, LeadsTo}
use Rattle.plant_lock.specs.History.{Legal, replay, entries_at, times}
use Rattle.std.proofs.Crossing.{crosses}
use denote.Param.Send.{IsSend, sendable}
use Rattle.plant_lock.proofs.Crossing.{turn_seat_send, turnstile_sync}
use Rattle.plant_lock.specs.contracts.counter.Counter as Counter
use Rattle.plant_lock.proofs.Adds.{two_done, starts_trans, admits, allows, after}
use Rattle.worked_parts.proofs.counters.two_adds.Goals as goal

counter_send : IsSend Counter.the_row
counter_send = search (sendable, crosses) depth 20

pub join-one-requires-send-F : goal.join-one-requires-send-F
join-one-requires-send-F g c κs within = search (turnstile_sync, turn_seat_send, counter_send, sendable) depth 40

pub join-one-requires-send-A : goal.join-one-requires-send-A
join-one-requires-send-A g c κs within = search (sendable, crosses, turn_seat_send) depth 40

abbrev sum_of : ℕ → ℕ
sum_of sum = sum

pub returns : goal.returns
returns g c = let one = rw c.in_ok-seat.was at c.join-one.ensures.first in let two = rw c.in_ok-other.was at c.join-one.ensures.second in let end = c.close-counter.ensures in
    let seen = c.join.ensures.seen in let view = c.join.ensures.view in let given = c.in-Ok-split.ensures.kept in
    let begins : c.join.new.seat.seat.me.0.start ≡ Some c.new.result = ap (λ v. v.start) view ∙ sym one.1 ∙ ap (λ v. v.start) given ∙ ap (λ v. v.start) c.in-Ok.ensures.view in
    let legal = subst (λ o. LegalFrom sum_of admits allows after o end.history) begins end.legal in
    let left = subst (λ o. LeadsTo sum_of admits allows after o end.history c.close-counter.result) begins end.left in
    let done = two_done end.history c.in_ok-seat.seat.seat.me.0.seen c.in_ok-other.other.seat.me.0.seen c.in_ok-seat.p c.in_ok-other.q c.in_ok-seat.a c.in_ok-other.b c.sum.result
    (starts_trans end.history c.join.new.seat.seat.me.0.seen c.in_ok-seat.seat.seat.me.0.seen end.begins seen.0)
    (starts_trans end.history c.join.new.seat.seat.me.0.seen c.in_ok-other.other.seat.me.0.seen end.begins seen.1)
    (ap (entries_at c.in_ok-seat.seat.seat.me.0.seen) (sym one.3) ∙ one.4)
    (ap (entries_at c.in_ok-other.other.seat.me.0.seen) (sym two.3) ∙ two.4)
    (λ x. ap (times x) (sym (ap (λ v. v.places) view ∙ (λ i. one.3 i ++ two.3 i))) ∙ end.placed x)
    (subst (λ n. Legal admits allows after n end.history) c.new.ensures legal)
    (c.sum.ensures ∙ (left ∙ ap (λ n. replay after n end.history) c.new.ensures)) in
    record { answers = done.0; sum = done.1 }
