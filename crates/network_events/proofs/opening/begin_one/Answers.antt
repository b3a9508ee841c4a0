use Rattle.std.proofs.Common.{arith}
use Rattle.dom_base.specs.declared.names.Peer.TheVariants.{Inner}
use Rattle.network_links.specs.Carried.{flow_of}
use Rattle.network_events.proofs.LetterLaws.{grows_said}
use Rattle.network_events.proofs.OpeningLaws.{goes_begin_one}
use Rattle.network_events.proofs.opening.begin_one.Goals as goal

pub begin_end-requires-clause-there : goal.begin_end-requires-clause-there
begin_end-requires-clause-there g c =
    let keeps = c.in_ok-reserve.ensures.ok in
    let more = (grows_said (flow_of c.reserve.new.self) (flow_of c.reserve_said.new.self) c.in_ok-reserve_said.ensures.grows).there c.args.at (Inner c.args.to) in
    record { messages = omega (arith, keeps.last_words.messages, more.messages); bytes = omega (arith, keeps.last_words.bytes, more.bytes) }

pub returns : goal.returns
returns g c =
    goes_begin_one g.M.Members.show (g.M.Members.stands c.args._members.now).network (g.M.Members.stands c.args._members.now).seen (g.M.Members.stands c.args._members.now).lost
    c.args.at c.args.to (flow_of c.args.traffic.now) (flow_of c.reserve.new.self) (flow_of c.reserve_said.new.self) (flow_of c.begin_end.new.self)
    c.in_ok-reserve.ensures.grows c.in_ok-reserve_said.ensures.grows c.begin_end.ensures
