use Rattle.std.proofs.Common.{sym, subst}
use Rattle.network_events.specs.plant_model.declared.event.BlindEvent.{BlindEvent}
use Rattle.plant_network.specs.Blind.{Moves, held}
use Rattle.plant_network.proofs.blind.act.Goals as goal

pub returns-in-Open : goal.returns-in-Open
returns-in-Open c = subst (λ (e : BlindEvent). Moves (held c.args.members.now c.args.traffic.now) e c.open.result (held c.open.new.members c.open.new.traffic)) (sym c.in-Open.is) c.open.ensures

pub returns-in-Shut : goal.returns-in-Shut
returns-in-Shut c = subst (λ (e : BlindEvent). Moves (held c.args.members.now c.args.traffic.now) e c.shut.result (held c.shut.new.members c.shut.new.traffic)) (sym c.in-Shut.is) c.shut.ensures

pub returns-in-Feed : goal.returns-in-Feed
returns-in-Feed c = subst (λ (e : BlindEvent). Moves (held c.args.members.now c.args.traffic.now) e c.feed.result (held c.args.members.now c.feed.new.traffic)) (sym c.in-Feed.is) c.feed.ensures

pub returns-in-Take : goal.returns-in-Take
returns-in-Take c = subst (λ (e : BlindEvent). Moves (held c.args.members.now c.args.traffic.now) e c.take.result (held c.take.new.members c.take.new.traffic)) (sym c.in-Take.is) c.take.ensures

pub returns-in-Carry : goal.returns-in-Carry
returns-in-Carry c = subst (λ (e : BlindEvent). Moves (held c.args.members.now c.args.traffic.now) e c.carry.result (held c.carry.new.members c.carry.new.traffic)) (sym c.in-Carry.is) c.carry.ensures

pub returns-in-Break : goal.returns-in-Break
returns-in-Break c = subst (λ (e : BlindEvent). Moves (held c.args.members.now c.args.traffic.now) e c.break_link.result (held c.break_link.new.members c.break_link.new.traffic)) (sym c.in-Break.is) c.break_link.ensures

pub returns-in-Tick : goal.returns-in-Tick
returns-in-Tick c = subst (λ (e : BlindEvent). Moves (held c.args.members.now c.args.traffic.now) e c.tick.result (held c.tick.new.members c.tick.new.traffic)) (sym c.in-Tick.is) c.tick.ensures

pub returns-in-Drain : goal.returns-in-Drain
returns-in-Drain c = subst (λ (e : BlindEvent). Moves (held c.args.members.now c.args.traffic.now) e c.drain.result (held c.args.members.now c.drain.new.traffic)) (sym c.in-Drain.is) c.drain.ensures
