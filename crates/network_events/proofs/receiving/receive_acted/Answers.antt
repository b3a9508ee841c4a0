use Rattle.std.proofs.Common.{true, refl}
use Rattle.std.proofs.lemmas.Result.{err_from_is_err_and}
use Rattle.pcep_session.specs.Listed.{listed}
use Rattle.network_links.specs.Carried.{flow_of}
use Rattle.network_events.specs.Peers.{receive_at}
use Rattle.network_events.specs.Standing.{here}
use Rattle.network_events.proofs.ReceivingLaws.{acted_fits, acted_roomy, end_there, input, no_tick, received, session_there, sets_there, taking}
use Rattle.network_events.proofs.StepLemmas.{lacks_moves}
use Rattle.network_events.proofs.receiving.receive_acted.Goals as goal

pub step-requires-clause-there : goal.step-requires-clause-there
step-requires-clause-there g c =
    let x = taking (g.M.Members.stands c.args.members.now).network c.args.traffic.now c.args.at c.args.to (listed c.args.actions) c.args.session (g.M.Members.stands c.args.members.now).seen (flow_of c.reserve_word.new.traffic) (flow_of c.clear_said.new.self) (flow_of c.drop_first.new.self)
    c.requires.there.end c.requires.there.member c.requires.steps c.requires.kept.of c.requires.kept.roomy c.reserve_word.ensures.grows c.clear_said.ensures c.drop_first.ensures in
    record { end = end_there g.M.Members.show x; member = c.requires.there.member; none = c.requires.kept.none }

pub step-requires-clause-sets : goal.step-requires-clause-sets
step-requires-clause-sets g c =
    let x = taking (g.M.Members.stands c.args.members.now).network c.args.traffic.now c.args.at c.args.to (listed c.args.actions) c.args.session (g.M.Members.stands c.args.members.now).seen (flow_of c.reserve_word.new.traffic) (flow_of c.clear_said.new.self) (flow_of c.drop_first.new.self)
    c.requires.there.end c.requires.there.member c.requires.steps c.requires.kept.of c.requires.kept.roomy c.reserve_word.ensures.grows c.clear_said.ensures c.drop_first.ensures in
    sets_there g.M.Members.show x

pub step-requires-clause-fits : goal.step-requires-clause-fits
step-requires-clause-fits g c =
    let x = taking (g.M.Members.stands c.args.members.now).network c.args.traffic.now c.args.at c.args.to (listed c.args.actions) c.args.session (g.M.Members.stands c.args.members.now).seen (flow_of c.reserve_word.new.traffic) (flow_of c.clear_said.new.self) (flow_of c.drop_first.new.self)
    c.requires.there.end c.requires.there.member c.requires.steps c.requires.kept.of c.requires.kept.roomy c.reserve_word.ensures.grows c.clear_said.ensures c.drop_first.ensures in
    acted_fits g.M.Members.show x c.requires.turn c.in_ok-reserve_word.ensures.keeps

pub returns-in_err-reserve_word : goal.returns-in_err-reserve_word
returns-in_err-reserve_word g c =
    let m = g.M.Members in
    let p = err_from_is_err_and c.from_residual.result c.from_residual.ensures.1 in
    rw p.1 (lacks_moves m.show (λ k st. receive_at m.Pin m.Key k m.show c.args.at c.args.to st) (here (m.stands c.args.members.now) (flow_of c.args.traffic.now)) (flow_of c.reserve_word.new.traffic) (λ st. true) c.requires.kept c.reserve_word.ensures.grows refl)

pub returns : goal.returns
returns g c =
    let x = taking (g.M.Members.stands c.args.members.now).network c.args.traffic.now c.args.at c.args.to (listed c.args.actions) c.args.session (g.M.Members.stands c.args.members.now).seen (flow_of c.reserve_word.new.traffic) (flow_of c.clear_said.new.self) (flow_of c.drop_first.new.self)
    c.requires.there.end c.requires.there.member c.requires.steps c.requires.kept.of c.requires.kept.roomy c.reserve_word.ensures.grows c.clear_said.ensures c.drop_first.ensures in
    let goes = c.step.ensures x.steps.session (input g.M.Members.show x) (session_there g.M.Members.show x) x.steps.asks x.steps.becomes (no_tick x.steps.item) in
    received g.M.Members.show x tt goes c.requires.kept.none (acted_roomy g.M.Members.show x c.requires.turn c.in_ok-reserve_word.ensures.keeps goes)
