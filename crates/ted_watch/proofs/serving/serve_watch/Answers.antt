use Rattle.std.proofs.Common.{◌∙◌, ◌+◌, ℕ, sym, subst}
use Rattle.ted_watch.specs.Watch.{known}
use Rattle.ted_watch.specs.Serving.{sides}
use Rattle.ted_watch.proofs.Connections.{IsServed, all_silent, few_behind, served_on, served_out}
use Rattle.ted_watch.proofs.serving.serve_watch.Goals as goal

pub returns-in-Err-clause-watches : goal.returns-in-Err-clause-watches
returns-in-Err-clause-watches g c =
    served_out (known c.args.watcher.now) (known c.loop-turn.watcher) (known c.turn.new.watcher) (sides (g.L.Wire.reading c.args.link.now) (g.L.Wire.writing c.args.link.now))
    (sides (g.L.Wire.reading c.loop-turn.link) (g.L.Wire.writing c.loop-turn.link)) (sides (g.L.Wire.reading c.turn.new.link) (g.L.Wire.writing c.turn.new.link))
    c.loop-turn._turn c.loop-turn.quiets c.args.turns c.loop-turn.line.items c.in-Err.end c.loop-turn.invariant.served c.in-Err.ensures.turned

pub returns-then-quiets-eq-QUIET_MOST-clause-watches : goal.returns-then-quiets-eq-QUIET_MOST-clause-watches
returns-then-quiets-eq-QUIET_MOST-clause-watches g c =
    let old = sides (g.L.Wire.reading c.args.link.now) (g.L.Wire.writing c.args.link.now) in
    let new = sides (g.L.Wire.reading c.turn.new.link) (g.L.Wire.writing c.turn.new.link) in
    all_silent (c.loop-turn._turn + 1) c.args.turns c.turn.new.line.items (known c.args.watcher.now) (known c.turn.new.watcher) old new
    (subst (λ (n : ℕ). IsServed (c.loop-turn._turn + 1) n c.turn.new.line.items (known c.args.watcher.now) (known c.turn.new.watcher) old new) (sym c.quiets_behind-quiets.ensures ∙ c.if-quiets-eq-QUIET_MOST.true)
    (served_on (known c.args.watcher.now) (known c.loop-turn.watcher) (known c.turn.new.watcher) old (sides (g.L.Wire.reading c.loop-turn.link) (g.L.Wire.writing c.loop-turn.link)) new
    c.in-Ok.came c.loop-turn._turn c.loop-turn.quiets c.loop-turn.line.items c.turn.new.line.items c.loop-turn.invariant.served c.in-Ok.ensures.turned))

pub loop-turn-preserved : goal.loop-turn-preserved
loop-turn-preserved g c =
    let old = sides (g.L.Wire.reading c.args.link.now) (g.L.Wire.writing c.args.link.now) in
    let new = sides (g.L.Wire.reading c.turn.new.link) (g.L.Wire.writing c.turn.new.link) in
    record {
      served = subst (λ (n : ℕ). IsServed (c.loop-turn._turn + 1) n c.turn.new.line.items (known c.args.watcher.now) (known c.turn.new.watcher) old new) (sym c.quiets_behind-quiets.ensures)
          (served_on (known c.args.watcher.now) (known c.loop-turn.watcher) (known c.turn.new.watcher) old (sides (g.L.Wire.reading c.loop-turn.link) (g.L.Wire.writing c.loop-turn.link)) new
          c.in-Ok.came c.loop-turn._turn c.loop-turn.quiets c.loop-turn.line.items c.turn.new.line.items c.loop-turn.invariant.served c.in-Ok.ensures.turned);
      few = few_behind c.in-Ok.came c.loop-turn.quiets c.quiets_behind-quiets.result c.loop-turn.invariant.few c.quiets_behind-quiets.ensures c.if-quiets-eq-QUIET_MOST.false;
      list = c.turn.ensures.list ∙ c.loop-turn.invariant.list;
    }
