use Rattle.std.proofs.Common.{◌≡◌, ◌∙◌, refl, ap, sym, min, Some, nat_eq}
use Rattle.std.specs.Map.{lookup}
use Rattle.std.specs.Option.{option_map}
use Rattle.indexmap.specs.IndexMap.{spare}
use Rattle.request_table.specs.declared.held.Held.{Held}
use Rattle.request_table.specs.Pending.{asked_by, number_among}
use Rattle.request_table.proofs.LendLemmas.{with_item_is, written_pending, number-with_item, room_at}
use Rattle.request_table.proofs.CountLemmas.{written_count}
use Rattle.request_table.proofs.requests.Requests.get_mut.Goals as goal

pub invariant_of-self-lent : goal.invariant_of-self-lent
invariant_of-self-lent g c = λ w.
    let before = c.self.inside in
    let rows = before.rows.kept in
    let found : lookup (nat_eq c.args.number) rows ≡ Some c.in-Some.held.now = sym c.in-Some.ensures.value in
    let is = with_item_is c.args.number rows c.in-Some.held.now w found in
    record {
      pending = written_pending before.limit before.given c.args.number w rows _ c.self.invariant.pending is;
      index = λ key. c.self.invariant.index key ∙ sym (ap (number_among key) is ∙ number-with_item key c.args.number w rows);
      counts = λ p. c.self.invariant.counts p ∙ sym (ap (asked_by p) is ∙ written_count p c.args.number w rows);
    }

pub returns-in-Some : goal.returns-in-Some
returns-in-Some g c =
    let before = c.self.inside in
    let rows = before.rows.kept in
    let found : lookup (nat_eq c.args.number) rows ≡ Some c.in-Some.held.now = sym c.in-Some.ensures.value in
    rw (← c.self.view_is) (
      (refl, (λ w. ap (λ after. room_at before.limit before.given after (min before.rows.spare (min (spare before.numbers) before.counts.spare))) (with_item_is c.args.number rows c.in-Some.held.now w found)), refl),
      record { writes_back = tt; value = ap (option_map (λ (h : Held g.row.T.Denot). h.item)) (sym found) },
    )
