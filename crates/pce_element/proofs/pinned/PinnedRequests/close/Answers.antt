use Rattle.std.proofs.Common.{◌≡◌, ◌≤◌, ◌∙◌, List, length, nat_eq, sym, ap, subst}
use Rattle.request_table.specs.Pending.{Pending}
use Rattle.request_table.proofs.PendingLemmas.{length-remove}
use Rattle.pce_common.specs.plant_model.Element.{Item, Row}
use Rattle.pce_element.specs.Pinned.{pins_in}
use Rattle.pce_element.specs.Worlds.{IsKept}
use Rattle.pce_element.proofs.PinLemmas.{ended_keeps, kept_pin, none_ended}
use Rattle.pce_element.proofs.pinned.PinnedRequests.close.Goals as goal

pub release-requires : goal.release-requires
release-requires g c =
    let a = c.self.inside in
    subst (λ p. IsKept (g.W.World.Keeps a.world) p) (sym c.into_pin.ensures) (kept_pin (g.W.World.Keeps a.world) c.args.number a.requests.kept.rows c.in-Some.item (sym c.in-Some.ensures.item) c.self.invariant.pins)

pub invariant_of-self : goal.invariant_of-self
invariant_of-self g c =
    let a = c.self.inside in
    let left : Pending (Item _) = c.close.new.self.kept in
    record {
      pins = ended_keeps (g.W.World.Keeps a.world) (g.W.World.Keeps c.release.new.self) c.args.number a.requests.kept.rows left.rows c.in-Some.item c.into_pin.result (sym c.in-Some.ensures.item) c.into_pin.ensures (ap (λ (p : Pending (Item _)). p.rows) c.close.ensures.kept)
          c.release.ensures.less c.self.invariant.pins;
      limit = ap (λ (p : Pending (Item _)). p.limit) c.close.ensures.kept ∙ c.self.invariant.limit;
      last = c.self.invariant.last ∙ sym (ap (λ (p : Pending (Item _)). p.given) c.close.ensures.kept);
    }

pub invariant_of-self-in_default : goal.invariant_of-self-in_default
invariant_of-self-in_default g c =
    let a = c.self.inside in
    let left : Pending (Item _) = c.close.new.self.kept in
    let same : left.rows ≡ a.requests.kept.rows = none_ended a.requests.kept.rows left.rows c.args.number (sym c.close.ensures.item ∙ c.in_default.is) (ap (λ (p : Pending (Item _)). p.rows) c.close.ensures.kept) in
    record {
      pins = subst (λ (rows : List (Row _)). g.W.World.Keeps a.world (pins_in rows)) (sym same) c.self.invariant.pins;
      limit = ap (λ (p : Pending (Item _)). p.limit) c.close.ensures.kept ∙ c.self.invariant.limit;
      last = c.self.invariant.last ∙ sym (ap (λ (p : Pending (Item _)). p.given) c.close.ensures.kept);
    }

pub returns-in-Some-clause-fewer : goal.returns-in-Some-clause-fewer
returns-in-Some-clause-fewer g c =
    let rows = c.self.inside.requests.kept.rows in
    rw (← c.self.view_is) (subst (λ (p : Pending (Item _)). length p.rows ≤ length rows) (sym c.close.ensures.kept) (length-remove (nat_eq c.args.number) rows))

pub returns-in_default-clause-fewer : goal.returns-in_default-clause-fewer
returns-in_default-clause-fewer g c =
    let rows = c.self.inside.requests.kept.rows in
    rw (← c.self.view_is) (subst (λ (p : Pending (Item _)). length p.rows ≤ length rows) (sym c.close.ensures.kept) (length-remove (nat_eq c.args.number) rows))
