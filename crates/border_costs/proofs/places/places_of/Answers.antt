use Rattle.std.proofs.Common.{◌≡◌, ◌<◌, length, take, get_or, Some}
use Rattle.std.specs.Prelude.{Contains, slice_get}
use Rattle.std.proofs.lemmas.List.{take_more}
use Rattle.dom_base.specs.declared.addr.Addr.{Addr}
use Rattle.dom_base.specs.declared.addr.Addr.TheVariants.{V4}
use Rattle.border_costs.proofs.Placed.{place_missed, place_added}
use Rattle.border_costs.proofs.places.places_of.Goals as goal
use Rattle.border_costs.proofs.places.places_of.Goals.{in-Some+in_ok-push, in_default}

pub loop-address-preserved : goal.loop-address-preserved
loop-address-preserved g c =
    let rows = g.G.Links.rows c.args.links.now in
    let i = c.loop-address.address-index in
    let addresses = c.args.addresses.now in
    let none : Addr = V4 0 in
    let address = get_or addresses i none in
    let below : i < length addresses = c.loop-address-test.true in
    let more = take_more addresses i none below in
    elim c.match-find_node.branch [
      | in-Some+in_ok-push w ↦
          let at : slice_get rows.nodes w.in-Some.place ≡ Some address = w.in-Some.ensures in
          rw (more, w.places-is, w.in_ok-push.ensures.items) (place_added rows (take i addresses) c.loop-address.places.items address w.in-Some.place c.node_count.ensures.rules c.loop-address.invariant at)
      | in_default w ↦
          let out : ¬ Contains rows.nodes address = w.in_default.ensures in
          rw (more, w.places-is) (place_missed rows (take i addresses) c.loop-address.places.items address c.loop-address.invariant out)
    ]
