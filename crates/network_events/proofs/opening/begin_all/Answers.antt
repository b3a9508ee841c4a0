use Rattle.std.proofs.Common.{◌≡◌, ◌∙◌, ℕ, suc, Some, List, take, sym, ap, subst, arith, add-one, ◌≤◌, length}
use Rattle.std.specs.Prelude.{slice_get}
use Rattle.std.proofs.lemmas.List.{take_all}
use Rattle.plant_text.specs.Settings.{Adjacency}
use Rattle.pce_common.specs.plant_model.RealWire.{wire}
use Rattle.pce_common.specs.plant_model.Deeds as deeds
use Rattle.pce_common.specs.plant_model.Events as events
use Rattle.network_links.specs.Carried.{flow_of}
use Rattle.network_events.specs.Standing.{Goes, here, here_of}
use Rattle.network_events.proofs.GoLaws.{goes_by, goes_then}
use Rattle.network_events.proofs.OpeningLaws.{begin_more, adjacency_stands}
use Rattle.network_events.proofs.opening.begin_all.Goals as goal

pub unreachable-requires : goal.unreachable-requires
unreachable-requires g c =
    adjacency_stands (flow_of c.loop-k.traffic).adjacencies (flow_of c.args.traffic.now).adjacencies c.loop-k.k c.adjacencies-k-end.result c.loop-k.invariant.adjacencies c.adjacencies-k-end.ensures c.loop-k-test.true c.in_default.ensures

pub loop-k-preserved : goal.loop-k-preserved
loop-k-preserved g c =
    let n = (g.M.Members.stands c.args.members.now).network in
    let ms = (g.M.Members.stands c.args.members.now).seen in
    let lost = (g.M.Members.stands c.args.members.now).lost in
    let at = here_of n ms lost in
    let start = flow_of c.args.traffic.now in
    let now = flow_of c.loop-k.traffic in
    let then = flow_of c.begin_both.new.traffic in
    let xs = start.adjacencies in
    let k = c.loop-k.k in
    let x : Adjacency = record { lower = c.in-Some.lower; upper = c.in-Some.upper } in
    let is : slice_get xs k ≡ Some x = ap (λ (ys : List Adjacency). slice_get ys k) (sym c.loop-k.invariant.adjacencies) ∙ sym c.in-Some.ensures in
    let adjacencies = events.begin_adjacencies g.M.Members.Pin g.M.Members.Key wire in
    let show = g.M.Members.show in
    let both = goes_then (λ m. adjacencies m show (take k xs)) (λ m. deeds.begin_adjacency g.M.Members.Pin g.M.Members.Key wire m show 0 x) (at start) (at now) (at then) c.loop-k.invariant c.in_ok-begin_both.ensures in
    let more = goes_by (λ m y. deeds.begin_adjacency g.M.Members.Pin g.M.Members.Key wire m show 0 x (adjacencies m show (take k xs) y)) (λ m. adjacencies m show (take (suc k) xs)) (at start) (at then) (λ m y. begin_more show m ms lost xs k x y is) both in
    subst (λ (j : ℕ). Goes (λ m. adjacencies m show (take j xs)) (at start) (at then)) (sym (add-one k)) more

pub returns : goal.returns
returns g c =
    let start = flow_of c.args.traffic.now in
    let all : length start.adjacencies ≤ c.loop-k.k = omega (arith, c.adjacencies-k-end.ensures, c.loop-k-test.false) in
    let at = here (g.M.Members.stands c.args.members.now) in
    subst (λ (xs : List Adjacency). Goes (λ m. events.begin_adjacencies g.M.Members.Pin g.M.Members.Key wire m g.M.Members.show xs) (at start) (at (flow_of c.loop-k.traffic))) (take_all c.loop-k.k start.adjacencies all) c.loop-k.invariant
