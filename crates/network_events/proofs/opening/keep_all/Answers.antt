use Rattle.std.proofs.Common.{◌≡◌, ◌∙◌, ℕ, Some, List, sym, ap, subst, arith, add-one, ◌≤◌, length}
use Rattle.std.specs.Prelude.{slice_get}
use Rattle.dom_base.specs.declared.names.Peer.TheVariants.{Inner}
use Rattle.plant_text.specs.Settings.{Adjacency}
use Rattle.network_links.specs.Carried.{flow_of}
use Rattle.network_links.specs.Flow.{Flow}
use Rattle.network_events.proofs.LetterLaws.{grows_at, grows_then}
use Rattle.network_events.proofs.OpeningLaws.{KeptUpTo, kept_all, kept_more, adjacency_stands}
use Rattle.network_events.proofs.opening.keep_all.Goals as goal

pub unreachable-requires : goal.unreachable-requires
unreachable-requires c =
    adjacency_stands (flow_of c.loop-k.traffic).adjacencies (flow_of c.args.traffic.now).adjacencies c.loop-k.k c.adjacencies-k-end.result (ap (λ (f : Flow). f.adjacencies) c.loop-k.invariant.grows.same) c.adjacencies-k-end.ensures c.loop-k-test.true c.in_default.ensures

pub loop-k-preserved : goal.loop-k-preserved
loop-k-preserved c =
    let start = flow_of c.args.traffic.now in
    let now = flow_of c.loop-k.traffic in
    let one = flow_of c.reserve.new.self in
    let two = flow_of c.reserve-in-loop-k.new.self in
    let k = c.loop-k.k in
    let x : Adjacency = record { lower = c.in-Some.lower; upper = c.in-Some.upper } in
    let is : slice_get start.adjacencies k ≡ Some x = ap (λ (ys : List Adjacency). slice_get ys k) (sym (ap (λ (f : Flow). f.adjacencies) c.loop-k.invariant.grows.same)) ∙ sym c.in-Some.ensures in
    subst (λ (j : ℕ). KeptUpTo j start two) (sym (add-one k))
    (kept_more k x start now one two c.loop-k.invariant is c.in_ok-reserve.ensures.grows c.in_ok-reserve.ensures.ok c.in_ok-reserve-2.ensures.grows c.in_ok-reserve-2.ensures.ok)

pub returns-clause-keeps : goal.returns-clause-keeps
returns-clause-keeps c =
    let start = flow_of c.args.traffic.now in
    let all : length start.adjacencies ≤ c.loop-k.k = omega (arith, c.adjacencies-k-end.ensures, c.loop-k-test.false) in
    kept_all c.loop-k.k start (flow_of c.loop-k.traffic) all c.loop-k.invariant

pub returns-in_err-reserve-clause-grows : goal.returns-in_err-reserve-clause-grows
returns-in_err-reserve-clause-grows c =
    grows_then (flow_of c.args.traffic.now) (flow_of c.loop-k.traffic) (flow_of c.reserve.new.self) c.loop-k.invariant.grows
    (grows_at c.in-Some.lower (Inner c.in-Some.upper) (flow_of c.loop-k.traffic) (flow_of c.reserve.new.self) c.reserve.ensures.grows)

pub returns-in_err-reserve-2-clause-grows : goal.returns-in_err-reserve-2-clause-grows
returns-in_err-reserve-2-clause-grows c =
    grows_then (flow_of c.args.traffic.now) (flow_of c.reserve.new.self) (flow_of c.reserve-in-loop-k.new.self)
    (grows_then (flow_of c.args.traffic.now) (flow_of c.loop-k.traffic) (flow_of c.reserve.new.self) c.loop-k.invariant.grows
    (grows_at c.in-Some.lower (Inner c.in-Some.upper) (flow_of c.loop-k.traffic) (flow_of c.reserve.new.self) c.reserve.ensures.grows))
    (grows_at c.in-Some.upper (Inner c.in-Some.lower) (flow_of c.reserve.new.self) (flow_of c.reserve-in-loop-k.new.self) c.reserve-in-loop-k.ensures.grows)
