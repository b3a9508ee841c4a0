use Rattle.std.proofs.Common.{◌≡◌, ◌≤◌, ◌<◌, ◌*◌, ℕ, Some, List, take, true, ap, sym, subst, arith, add-one, length}
use Rattle.std.specs.Prelude.{slice_get}
use Rattle.std.proofs.lemmas.List.{take_all}
use Rattle.pce_common.specs.plant_model.Types.{NetworkParts}
use Rattle.plant_text.specs.Settings.{Adjacency, has_adjacency, adjacencies}
use Rattle.network_links.specs.Adjacencies.{adjacency_of}
use Rattle.pce_common.specs.plant_model.RealWire.{wire}
use Rattle.pce_common.specs.plant_model.Deeds as deeds
use Rattle.network_links.specs.Carried.{flow_of}
use Rattle.pce_common.specs.Membership.{is_member}
use Rattle.network_events.specs.Standing.{here}
use Rattle.network_events.proofs.RoomyNeeds.{adjacency_back}
use Rattle.network_events.proofs.TickingLaws.{Until, adjacency_here, adjacency_linked, adjacency_rises, adjacencies_more, under_way, uses_by}
use Rattle.network_events.proofs.ticking.tick_adjacencies.Goals as goal

pub tick_adjacency-requires-clause-lower : goal.tick_adjacency-requires-clause-lower
tick_adjacency-requires-clause-lower g c =
    let has = adjacency_linked c.loop-k.k c.in-Some.adjacency c.loop-k.invariant.uses.goes c.requires.under.of c.in-Some.ensures in
    subst (λ (m : NetworkParts). is_member m c.in-Some.adjacency.0 ≡ true) (sym c.loop-k.invariant.uses.goes.network) (c.requires.joined.links c.in-Some.adjacency.0 c.in-Some.adjacency.1 has)

pub tick_adjacency-requires-clause-upper : goal.tick_adjacency-requires-clause-upper
tick_adjacency-requires-clause-upper g c =
    let has = adjacency_linked c.loop-k.k c.in-Some.adjacency c.loop-k.invariant.uses.goes c.requires.under.of c.in-Some.ensures in
    let back = adjacency_back c.in-Some.adjacency.0 c.in-Some.adjacency.1 (adjacencies (g.M.Members.stands c.args.members.now).network) has in
    subst (λ (m : NetworkParts). is_member m c.in-Some.adjacency.1 ≡ true) (sym c.loop-k.invariant.uses.goes.network) (c.requires.joined.links c.in-Some.adjacency.1 c.in-Some.adjacency.0 back)

pub tick_adjacency-requires-clause-apart : goal.tick_adjacency-requires-clause-apart
tick_adjacency-requires-clause-apart g c =
    c.requires.apart c.in-Some.adjacency.0 c.in-Some.adjacency.1 (adjacency_linked c.loop-k.k c.in-Some.adjacency c.loop-k.invariant.uses.goes c.requires.under.of c.in-Some.ensures)

pub tick_adjacency-requires-clause-rises : goal.tick_adjacency-requires-clause-rises
tick_adjacency-requires-clause-rises g c =
    adjacency_rises (g.M.Members.stands c.args.members.now).network c.loop-k.k (adjacency_of c.in-Some.adjacency) (adjacency_here c.loop-k.k (adjacency_of c.in-Some.adjacency) c.loop-k.invariant.uses.goes c.requires.under.of c.in-Some.ensures)
    (c.requires.apart c.in-Some.adjacency.0 c.in-Some.adjacency.1 (adjacency_linked c.loop-k.k c.in-Some.adjacency c.loop-k.invariant.uses.goes c.requires.under.of c.in-Some.ensures))

pub tick_adjacency-requires-clause-linked : goal.tick_adjacency-requires-clause-linked
tick_adjacency-requires-clause-linked g c =
    subst (λ (m : NetworkParts). has_adjacency c.in-Some.adjacency.0 c.in-Some.adjacency.1 (adjacencies m) ≡ true) (sym c.loop-k.invariant.uses.goes.network)
    (adjacency_linked c.loop-k.k c.in-Some.adjacency c.loop-k.invariant.uses.goes c.requires.under.of c.in-Some.ensures)

pub tick_adjacency-requires-clause-under : goal.tick_adjacency-requires-clause-under
tick_adjacency-requires-clause-under g c =
    let all = adjacencies (g.M.Members.stands c.args.members.now).network in
    let below : c.loop-k.k < length all = omega (arith, c.loop-k-test.true, c.adjacencies-k-end.ensures, ap (λ (xs : List Adjacency). length xs) c.requires.under.of.adjacencies_are) in
    under_way (4 * c.loop-k.k) 4 (4 * length all) c.loop-k.invariant.uses (omega (arith, below)) c.requires.under

pub loop-k-preserved : goal.loop-k-preserved
loop-k-preserved g c =
    let n = (g.M.Members.stands c.args.members.now).network in
    let xs = adjacencies n in
    let k = c.loop-k.k in
    let start = here (g.M.Members.stands c.args.members.now) (flow_of c.args.traffic.now) in
    let now = here (g.M.Members.stands c.loop-k.members) (flow_of c.loop-k.traffic) in
    let then = here (g.M.Members.stands c.tick_adjacency.new.members) (flow_of c.tick_adjacency.new.traffic) in
    let below : k < length xs = omega (arith, c.loop-k-test.true, c.adjacencies-k-end.ensures, ap (λ (ys : List Adjacency). length ys) c.requires.under.of.adjacencies_are) in
    let is : slice_get xs k ≡ Some (adjacency_of c.in-Some.adjacency) = adjacency_here k (adjacency_of c.in-Some.adjacency) c.loop-k.invariant.uses.goes c.requires.under.of c.in-Some.ensures in
    subst (λ (j : ℕ). Until (λ m. deeds.tick_adjacencies g.M.Members.Pin g.M.Members.Key wire m g.M.Members.show (take j xs) c.args.now) (4 * j) j (length xs) start then) (sym (add-one k))
    (record { within = omega (arith, below); uses = adjacencies_more g.M.Members.show c.args.now xs k (adjacency_of c.in-Some.adjacency) start now then is c.loop-k.invariant.uses c.tick_adjacency.ensures })

pub returns : goal.returns
returns g c =
    let n = (g.M.Members.stands c.args.members.now).network in
    let xs = adjacencies n in
    let k = c.loop-k.k in
    let all : length xs ≤ k = omega (arith, c.loop-k-test.false, c.adjacencies-k-end.ensures, ap (λ (ys : List Adjacency). length ys) c.requires.under.of.adjacencies_are) in
    uses_by (λ m. deeds.tick_adjacencies g.M.Members.Pin g.M.Members.Key wire m g.M.Members.show (take k xs) c.args.now) (λ m. deeds.tick_adjacencies g.M.Members.Pin g.M.Members.Key wire m g.M.Members.show (adjacencies m) c.args.now)
    (4 * k) (4 * length xs)
    (here (g.M.Members.stands c.args.members.now) (flow_of c.args.traffic.now))
    (here (g.M.Members.stands c.loop-k.members) (flow_of c.loop-k.traffic))
    (λ y. ap (λ (ys : List Adjacency). deeds.tick_adjacencies g.M.Members.Pin g.M.Members.Key wire n g.M.Members.show ys c.args.now y) (take_all k xs all))
    (omega (arith, c.loop-k.invariant.within)) c.loop-k.invariant.uses
