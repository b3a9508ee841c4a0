use Rattle.std.proofs.Common.{arith}
use Rattle.network_links.specs.Carried.{flow_of}
use Rattle.network_events.proofs.LetterLaws.{keeps_start, keeps_more, keeps_end}
use Rattle.network_events.proofs.giving.reserve_all.Goals as goal

pub loop-k-init : goal.loop-k-init
loop-k-init g c =
    keeps_start (g.M.Members.stands c.args.members.now).network c.args.at c.args.peer c.args.asked c.args.letters.now.kept (g.M.Members.stands c.args.members.now).seen
    (flow_of c.args.traffic.now) (flow_of c.reserve_queue.new.traffic) (flow_of c.reserve_words.new.traffic) c.in-Some.need.messages c.in-Some.need.bytes c.in-Some.ensures.0 c.in-Some.ensures.1
    c.reserve_queue.ensures.grows c.reserve_words.ensures.grows c.in_ok-reserve_queue.ensures.keeps c.in_ok-reserve_words.ensures.covers

pub loop-k-preserved : goal.loop-k-preserved
loop-k-preserved g c =
    keeps_more (g.M.Members.stands c.args.members.now).network c.args.at c.args.peer c.args.asked c.args.letters.now.kept (g.M.Members.stands c.args.members.now).seen
    c.loop-k.k c.way-to.result (flow_of c.args.traffic.now) (flow_of c.loop-k.traffic) (flow_of c.reserve_queue-in-loop-k.new.traffic) c.in-Some.need.messages c.in-Some.need.bytes c.in-Some.ensures.0 c.in-Some.ensures.1
    c.way-to.ensures c.loop-k.invariant c.reserve_queue-in-loop-k.ensures.grows c.in_ok-reserve_queue-2.ensures.own c.in_ok-reserve_queue-2.ensures.keeps

pub returns-clause-room : goal.returns-clause-room
returns-clause-room g c =
    keeps_end (g.M.Members.stands c.args.members.now).network c.args.at c.args.peer c.args.asked c.args.letters.now.kept (g.M.Members.stands c.args.members.now).seen
    c.loop-k.k (flow_of c.args.traffic.now) (flow_of c.loop-k.traffic) (omega (arith, c.loop-k-test.false, c.len-k-end.ensures)) c.loop-k.invariant
