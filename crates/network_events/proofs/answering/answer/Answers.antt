use Rattle.std.proofs.Common.{◌≡◌, ap, sym, subst, ◌∙◌}
use Rattle.network_links.specs.Carried.{flow_of}
use Rattle.pce_common.specs.Membership.{Standing}
use Rattle.network_events.specs.Answering.{Sends}
use Rattle.network_events.specs.Moving.{IsKept}
use Rattle.network_events.specs.Standing.{here}
use Rattle.network_events.proofs.PassRoom.{pass_room, pass_roomy}
use Rattle.network_events.proofs.AnswerLaws.{answer_of, answer_passing, answer_sends}
use Rattle.network_events.proofs.StepLemmas.{kept_grown}
use Rattle.network_events.proofs.answering.answer.Goals as goal

pub perform-requires-clause-room : goal.perform-requires-clause-room
perform-requires-clause-room g c =
    let m = g.M.Members in
    let s = m.stands c.args.members.now in
    let mid = m.next c.args.members.now c.args.plan in
    let letters = c.in-Ok.prepared.letters.kept in
    let start = flow_of c.args.traffic.now in
    let made = flow_of c.prepare_plan.new.traffic in
    let cleared = flow_of c.clear_said.new.self in
    let passing = answer_passing s.network c.args.at (m.sends c.args.plan) s.seen mid c.requires.answers letters c.in-Ok.ensures.letters start made cleared c.requires.kept.of c.requires.kept.roomy c.prepare_plan.ensures.grows c.in-Ok.ensures.room c.clear_said.ensures in
    pass_room s.network c.args.at c.requires.answers.to 0 letters s.seen mid start made cleared passing

pub returns-in-Ok-clause-kept : goal.returns-in-Ok-clause-kept
returns-in-Ok-clause-kept g c =
    let m = g.M.Members in
    let s = m.stands c.args.members.now in
    let mid = m.next c.args.members.now c.args.plan in
    let os = m.sends c.args.plan in
    let letters = c.in-Ok.prepared.letters.kept in
    let start = flow_of c.args.traffic.now in
    let made = flow_of c.prepare_plan.new.traffic in
    let cleared = flow_of c.clear_said.new.self in
    let end = flow_of c.perform.new.traffic in
    let grows = c.prepare_plan.ensures.grows in
    let passing = answer_passing s.network c.args.at os s.seen mid c.requires.answers letters c.in-Ok.ensures.letters start made cleared c.requires.kept.of c.requires.kept.roomy grows c.in-Ok.ensures.room c.clear_said.ensures in
    subst (λ (x : Standing _ _). IsKept (here x end)) (sym (c.perform.ensures.next ∙ ap (λ p. record s { seen = m.next c.args.members.now p }) c.in-Ok.ensures.plan)) (record {
      of = answer_of s.network c.args.at os s.seen mid c.requires.answers letters c.in-Ok.ensures.letters start made cleared end c.requires.kept.of grows c.clear_said.ensures c.perform.ensures.puts;
      none = c.requires.kept.none;
      roomy = pass_roomy s.network c.args.at c.requires.answers.to 0 letters s.seen mid start made cleared passing end c.perform.ensures.puts;
    })

pub returns-in-Ok-clause-next : goal.returns-in-Ok-clause-next
returns-in-Ok-clause-next g c =
    let m = g.M.Members in
    let s = m.stands c.args.members.now in
    c.perform.ensures.next ∙ ap (λ p. record s { seen = m.next c.args.members.now p }) c.in-Ok.ensures.plan

pub returns-in-Ok-clause-sends : goal.returns-in-Ok-clause-sends
returns-in-Ok-clause-sends g c =
    let m = g.M.Members in
    let s = m.stands c.args.members.now in
    let mid = m.next c.args.members.now c.args.plan in
    let os = m.sends c.args.plan in
    let start = flow_of c.args.traffic.now in
    let end = flow_of c.perform.new.traffic in
    let next : (m.stands c.perform.new.members).seen ≡ mid = ap (λ (x : Standing _ _). x.seen) c.perform.ensures.next ∙ ap (m.next c.args.members.now) c.in-Ok.ensures.plan in
    subst (λ x. Sends s.network m.show c.args.at os x start end) (sym next)
    (answer_sends s.network c.args.at os s.seen mid c.requires.answers c.in-Ok.prepared.letters.kept c.in-Ok.ensures.letters start (flow_of c.prepare_plan.new.traffic) (flow_of c.clear_said.new.self) m.show end c.prepare_plan.ensures.grows c.clear_said.ensures c.perform.ensures.puts)

pub returns-in-Err-clause-kept : goal.returns-in-Err-clause-kept
returns-in-Err-clause-kept g c =
    kept_grown (here (g.M.Members.stands c.args.members.now) (flow_of c.args.traffic.now)) (flow_of c.prepare_plan.new.traffic) c.prepare_plan.ensures.grows c.requires.kept
