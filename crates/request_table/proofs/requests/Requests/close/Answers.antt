use Rattle.std.proofs.Common.{◌∙◌, sym, arith}
use Rattle.request_table.proofs.PendingLemmas.{closed_pending, closed_holds}
use Rattle.request_table.proofs.CountLemmas.{closed_count, none_removed, some_asked}
use Rattle.request_table.proofs.requests.Requests.close.Goals as goal

pub invariant_of-self : goal.invariant_of-self
invariant_of-self g c =
    let before = c.self.inside in
    rw (c.remove.ensures.kept ∙ none_removed c.args.number before.rows.kept (sym c.in_default.ensures.value)) (record {
      pending = c.self.invariant.pending;
      index = c.self.invariant.index;
      counts = c.self.invariant.counts;
    })

pub take-requires : goal.take-requires
take-requires g c =
    let before = c.self.inside in
    let held = c.in-Some.held in
    record { some = rw (c.self.invariant.counts held.key.peer) (some_asked c.args.number before.rows.kept held (sym c.in-Some.ensures.value)) }

pub invariant_of-self-2 : goal.invariant_of-self-2
invariant_of-self-2 g c =
    let before = c.self.inside in
    let held = c.in-Some.held in
    let found = sym c.in-Some.ensures.value in
    record {
      pending = closed_pending before.limit before.given c.args.number before.rows.kept c.remove.new.self.kept c.self.invariant.pending c.remove.ensures.kept;
      index = closed_holds c.args.number before.rows.kept c.remove.new.self.kept held before.numbers.entries c.swap_remove.new.self.entries
          c.self.invariant.pending.names found c.self.invariant.index c.swap_remove.ensures.updates.0 c.remove.ensures.kept;
      counts = λ p.
          rw c.remove.ensures.kept (omega (arith, c.take.ensures.counts p, c.self.invariant.counts p, closed_count p c.args.number before.rows.kept held found));
    }
