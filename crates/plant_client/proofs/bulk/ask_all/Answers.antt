use Rattle.std.proofs.Common.{◌∙◌, ap, arith, refl}
use Rattle.plant_play.specs.Playing.{played_network}
use Rattle.plant_client.specs.Hearing.{heard_in}
use Rattle.plant_client.proofs.BulkLemmas.{none_tallied, one_tallied_more}
use Rattle.plant_client.proofs.bulk.ask_all.Goals as goal

pub loop-request-init : goal.loop-request-init
loop-request-init g c = record {
  files = refl;
  place = omega (arith, c.requires.place);
  tallied = none_tallied (g.S.Store.files c.args.store.now) (played_network c.args.player.now) c.new-tally.result c.new-tally.ensures;
}

pub loop-request-preserved : goal.loop-request-preserved
loop-request-preserved g c = record {
  files = c.ask_next.ensures.files ∙ c.loop-request.invariant.files;
  place = omega (arith, c.ask_next.ensures.drawn);
  tallied = one_tallied_more (g.S.Store.files c.args.store.now) (g.S.Store.files c.loop-request.store) c.args.demand c.loop-request.request (played_network c.args.player.now) (played_network c.loop-request.player) (played_network c.ask_next.new.player)
      c.loop-request.tally c.in_ok-tally.tally c.in_ok-received.received c.in_ok-heard.heard c.loop-request.invariant.files c.loop-request.invariant.tallied c.in_ok-received.ensures.exchanges (c.in_ok-heard.ensures ∙ ap heard_in c.as_slice.ensures) c.in_ok-tally.ensures;
}
