use Rattle.std.proofs.Common.{◌≡◌, ◌≤◌, ℕ, suc, Some, List, [], ◌∷◌, ◌++◌, take, length, arith, sym, subst, add-one}
use Rattle.std.specs.Prelude.{slice_get}
use Rattle.std.proofs.lemmas.List.{take_all}
use Rattle.plant_model.specs.Types.{As}
use Rattle.plant_text.specs.Settings.{Adjacency}
use Rattle.network_links.specs.Carried.{flow_of}
use Rattle.network_links.specs.Waiting.{WaitsAmong, ways}
use Rattle.network_links.proofs.WaitLemmas.{ways_more}
use Rattle.network_links.proofs.traffic.Traffic.waiting.Goals as goal

pub loop-k-preserved : goal.loop-k-preserved
loop-k-preserved c =
    let f = flow_of c.args.self.now in
    let xs = f.adjacencies in
    let k = c.loop-k.k in
    let lower = c.in-Some.lower in
    let upper = c.in-Some.upper in
    let x : Adjacency = record { lower = lower; upper = upper } in
    let at : slice_get xs k ≡ Some x = sym c.in-Some.ensures in
    let best = c.look_at-best-in-loop-k.result in
    let both : WaitsAmong f ((ways (take k xs) ++ (lower, upper) ∷ []) ++ (upper, lower) ∷ []) best =
    c.look_at-best-in-loop-k.ensures (ways (take k xs) ++ (lower, upper) ∷ []) (c.look_at-best.ensures (ways (take k xs)) c.loop-k.invariant) in
    let more : WaitsAmong f (ways (take (suc k) xs)) best = subst (λ (ws : List (As × As)). WaitsAmong f ws best) (sym (ways_more xs k x at)) both in
    subst (λ (j : ℕ). WaitsAmong f (ways (take j xs)) best) (sym (add-one k)) more

pub returns : goal.returns
returns c =
    let f = flow_of c.args.self.now in
    let all : length f.adjacencies ≤ c.loop-k.k = omega (arith, c.adjacencies-k-end.ensures, c.loop-k-test.false) in
    subst (λ (xs : List Adjacency). WaitsAmong f (ways xs) c.loop-k.best) (take_all c.loop-k.k f.adjacencies all) c.loop-k.invariant
