use Rattle.std.proofs.Common.{◌∙◌, Some, sym, ap, subst, option_map}
use Rattle.request_table.specs.Pending.{item_of}
use Rattle.pce_common.specs.plant_model.Plant.{Pin}
use Rattle.pce_element.specs.Pinned.{Pinned}
use Rattle.pce_element.specs.Rows.{pin_in}
use Rattle.pce_element.specs.Topologies.{KeepsPins}
use Rattle.pce_element.specs.Worlds.{IsKept}
use Rattle.pce_element.proofs.PinLemmas.{kept_pin}
use Rattle.pce_element.proofs.topologies.PinnedRequests+Topologies.pinned.Goals as goal

pub of-requires : goal.of-requires
of-requires c =
    let a = c.self.inside in
    subst (λ (p : Pin). IsKept (KeepsPins a.world.generations) p) (sym c.pin.ensures) (kept_pin (KeepsPins a.world.generations) c.args.number a.requests.kept.rows c.in-Some.item.now (sym c.in-Some.ensures) c.self.invariant.pins)

pub returns : goal.returns
returns c =
    ap (λ (p : Pin). Some p) (c.in_ok-topology.ensures ∙ c.pin.ensures)
    ∙ ap (option_map pin_in) c.in-Some.ensures ∙ ap (λ (p : Pinned Pin). option_map pin_in (item_of p.pending c.args.number)) c.self.view_is
