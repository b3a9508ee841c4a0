use Rattle.std.proofs.Common.{refl, subst, sym}
use Rattle.server_loops.specs.Serving.{TellsTime}
use Rattle.ted_watch.specs.Watch.{list_of, published}
use Rattle.turn_desk.specs.Desks.{IsAtLock, Stand, desked_of, stand_of}
use Rattle.turn_desk.proofs.Turning.{opened_at_lock}
use Rattle.network_serving.specs.Bases.{Server, server}
use Rattle.network_serving.proofs.Starts.{all_served, told_so}
use Rattle.network_serving.proofs.serving.serve.Goals as goal

pub returns-in-Ok-start_network : goal.returns-in-Ok-start_network
returns-in-Ok-start_network g c =
    let p = c.in-Ok.prepared in
    let x : Server = server (stand_of p.desk) (published p.publisher) (list_of p.publisher) in
    record {
      ends = told_so _ _ _ _ c.tick_on-made.result c.end_of.result c.tick_on-made.ensures.within
          (all_served _ _ c.tick_on-made.result p.network x c.in-Ok.ensures.ok.0 c.in-Ok.ensures.ok.1 c.in-Ok.ensures.ready c.in-Ok-start_network.ensures.ok c.in-Ok-start_network.ensures.behind c.tick_on-made.ensures.counted
          (stand_of c.tick_on-made.new.desk) refl (c.tick_on-made.ensures.stays x.desk (subst (λ (s : Stand). IsAtLock x.desk s) (sym c.in-Ok-start_network.ensures.stand) (opened_at_lock c.in-Ok.ensures.ready.held x.desk c.in-Ok.ensures.ready.opened)))
          (subst (λ (s : Stand). TellsTime c.tick_on-made.result (desked_of s) (desked_of (stand_of c.tick_on-made.new.desk)) (g.C.Clock.last c.args.clock.now) (g.C.Clock.last c.tick_on-made.new.clock)) c.in-Ok-start_network.ensures.stand c.tick_on-made.ensures.tells))
          c.end_of.ensures;
    }
