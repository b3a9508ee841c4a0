use Rattle.std.proofs.Common.{◌≡◌, ◌∙◌, ◌+◌, ℕ, ap, sym, arith, refl, None, length}
use Rattle.dom_base.specs.Room.{Room}
use Rattle.request_table.specs.declared.held.Held.{Held}
use Rattle.request_table.specs.Pending.{Pending, key_of, number_of, number_among}
use Rattle.request_table.proofs.CountLemmas.{all_below, count_few, opened_count}
use Rattle.request_table.proofs.PendingLemmas.{opened_pending, opened_holds, none_from}
use Rattle.request_table.proofs.requests.Requests.open.Goals as goal

pub push-requires-clause-above : goal.push-requires-clause-above
push-requires-clause-above g c =
    let before = c.self-2.inside in
    all_below 0 before.given (before.given + 1) before.rows.kept c.self-2.invariant.pending.numbers (omega arith)

pub add-requires-clause-few : goal.add-requires-clause-few
add-requires-clause-few g c =
    let same =
    ap (λ (room : Room (Pending g.row.T.Denot)). length room.kept.rows) c.self-2.view_is ∙ ap (λ (p : Pending g.row.T.Denot). length p.rows) c.make_room.ensures.same
    ∙ sym (ap (λ (room : Room (Pending g.row.T.Denot)). length room.kept.rows) c.self.view_is) in
    omega (arith, c.self-2.invariant.counts c.args.peer, count_few c.args.peer c.self-2.inside.rows.kept, same, c.len.ensures, c.if-len-self.false)

pub invariant_of-self : goal.invariant_of-self
invariant_of-self g c =
    let before = c.self-2.inside in
    let held : Held g.row.T.Denot = record { key = key_of c.args.peer c.args.id; item = c.args.item } in
    let was = λ (X : Type 0) (f : Pending g.row.T.Denot → X).
    ap (λ (room : Room (Pending g.row.T.Denot)). f room.kept) c.self-2.view_is ∙ ap f c.make_room.ensures.same in
    let same = λ (f : Pending g.row.T.Denot → ℕ). was ℕ f ∙ sym (ap (λ (room : Room (Pending g.row.T.Denot)). f room.kept) c.self.view_is) in
    let none : number_among (key_of c.args.peer c.args.id) before.rows.kept ≡ None =
    was _ (λ p. number_of p c.args.peer c.args.id) ∙ sym c.asked.ensures ∙ none_from c.asked.result (sym c.is_some.ensures ∙ c.if-is_some.false) in
    let limit = same (λ p. p.limit) in
    let given = same (λ p. p.given) in
    let count = same (λ p. length p.rows) in
    record {
      pending = opened_pending before.limit before.given before.rows.kept c.push.new.self.kept held c.self-2.invariant.pending (omega (arith, limit, count, c.len.ensures, c.if-len-self.false))
          (omega (arith, given, c.if-self.false, c.self-2.invariant.pending.last)) none c.push.ensures.kept;
      index = opened_holds (before.given + 1) before.rows.kept c.push.new.self.kept held before.numbers.entries before.numbers.entries c.insert.new.self.entries none
          c.self-2.invariant.index refl c.in-Ok.ensures.updates.0 c.push.ensures.kept;
      counts = λ p.
          rw c.push.ensures.kept (omega (arith, c.add.ensures.counts p, c.self-2.invariant.counts p, opened_count p (before.given + 1) before.rows.kept held));
    }
