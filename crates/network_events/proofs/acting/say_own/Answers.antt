use Rattle.std.proofs.Common.{sym, ◌∙◌}
use Rattle.network_links.specs.Carried.{flow_of}
use Rattle.network_links.specs.Ends.{own_bytes}
use Rattle.network_events.proofs.ActLaws.{own_left, own_put, puts_spent}
use Rattle.network_events.proofs.acting.say_own.Goals as goal

pub returns-then-leaves_out-clause-goes : goal.returns-then-leaves_out-clause-goes
returns-then-leaves_out-clause-goes g c =
    own_left g.M.Members.show (g.M.Members.stands c.args._members.now).network (g.M.Members.stands c.args._members.now).seen (g.M.Members.stands c.args._members.now).lost c.args.at c.args.to c.args.ticks c.args.own
    (flow_of c.args.traffic.now) (sym c.leaves_out.ensures ∙ c.if-leaves_out.true)

pub returns-clause-goes : goal.returns-clause-goes
returns-clause-goes g c =
    own_put g.M.Members.show (g.M.Members.stands c.args._members.now).network (g.M.Members.stands c.args._members.now).seen (g.M.Members.stands c.args._members.now).lost c.args.at c.args.to c.args.ticks c.args.own
    (flow_of c.args.traffic.now) (flow_of c.say.new.traffic) (sym c.leaves_out.ensures ∙ c.if-leaves_out.false) c.say.ensures

pub returns-clause-spent : goal.returns-clause-spent
returns-clause-spent g c = puts_spent c.args.at c.args.to (own_bytes c.args.own) (flow_of c.args.traffic.now) (flow_of c.say.new.traffic) c.say.ensures
