use Rattle.std.proofs.Common.{◌≡◌, None, Some}
use Rattle.cost_cache.specs.Entries.{next_at}
use Rattle.cost_cache.proofs.Walking.{go_on, arrive, inside, falls}
use Rattle.cost_cache.proofs.shown.shown_from.Goals as goal

pub bounds : goal.bounds
bounds g c =
    let rows = g.G.Links.rows c.args._links.now in
    let kept = c.requires.kept in
    let a = c.requires.label.0 in
    rw c.as_slice-nexts.ensures
    (inside rows c.args._ask.now.query kept.seeds c.args.kept.now kept.are_kept c.args.entry a c.loop-place.place c.loop-place.shown.items
    (c.loop-place.invariant kept.seeds a kept.are_kept c.requires.label.1))

pub loop-place-smaller : goal.loop-place-smaller
loop-place-smaller g c =
    let rows = g.G.Links.rows c.args._links.now in
    let kept = c.requires.kept in
    let a = c.requires.label.0 in
    let is : next_at c.args.kept.now.nexts c.loop-place.place ≡ Some c.in-Some.next = rw c.as_slice-nexts.ensures at c.in-Some.is in
    falls rows c.args._ask.now.query kept.seeds c.args.kept.now kept.are_kept c.args.entry a c.loop-place.place c.loop-place.shown.items c.in-Some.next c.requires.rules
    (c.loop-place.invariant kept.seeds a kept.are_kept c.requires.label.1) is

pub loop-place-preserved : goal.loop-place-preserved
loop-place-preserved g c = λ seeds a are at.
    let rows = g.G.Links.rows c.args._links.now in
    let is : next_at c.args.kept.now.nexts c.loop-place.place ≡ Some c.in-Some.next = rw c.as_slice-nexts.ensures at c.in-Some.is in
    rw c.in_ok-push-2.ensures.items
    (go_on rows c.args._ask.now.query seeds c.args.kept.now are c.args.entry a c.loop-place.place c.loop-place.shown.items c.in-Some.next (c.loop-place.invariant seeds a are at) is)

pub returns : goal.returns
returns g c = λ seeds a are at.
    let rows = g.G.Links.rows c.args._links.now in
    let is : next_at c.args.kept.now.nexts c.loop-place.place ≡ None = rw c.as_slice-nexts.ensures at c.in_default.is in
    arrive rows c.args._ask.now.query seeds c.args.kept.now are c.args.entry a c.loop-place.place c.loop-place.shown.items (c.loop-place.invariant seeds a are at) is
