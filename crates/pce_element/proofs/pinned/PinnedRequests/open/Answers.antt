use Rattle.std.proofs.Common.{◌∙◌, sym, ap}
use Rattle.request_table.specs.Pending.{Pending, is_full}
use Rattle.pce_common.specs.plant_model.Element.{Item}
use Rattle.pce_element.specs.Pinned.{Pinned, pins_in}
use Rattle.pce_element.proofs.PinLemmas.{few_pins, opened_keeps}
use Rattle.pce_element.proofs.pinned.PinnedRequests.open.Goals as goal

pub pin-pin-requires : goal.pin-pin-requires
pin-pin-requires g c =
    let a = c.self.inside in
    (pins_in a.requests.kept.rows, c.self.invariant.pins, few_pins a.requests.kept c.self.invariant.limit (ap (λ (p : Pinned _). is_full p.pending) c.self.view_is ∙ c.requires.fits))

pub invariant_of-self : goal.invariant_of-self
invariant_of-self g c =
    let a = c.self.inside in
    let more : Pending (Item _) = c.open.new.self.kept in
    record {
      pins = opened_keeps (g.W.World.Keeps a.world) (g.W.World.Keeps c.pin-pin.new.self) a.requests.kept more c.args.peer c.args.id c.new-item.result c.pin-pin.result (ap (λ (i : Item _). i.pin) c.new-item.ensures) c.in-Ok.ensures.ok c.pin-pin.ensures.more c.self.invariant.pins;
      limit = ap (λ (p : Pending (Item _)). p.limit) c.in-Ok.ensures.ok ∙ c.self.invariant.limit;
      last = c.in-Ok.ensures.number ∙ sym (ap (λ (p : Pending (Item _)). p.given) c.in-Ok.ensures.ok);
    }
