use Rattle.std.proofs.Common.{◌∙◌}
use Rattle.pce_element.proofs.KeySteps.{issued_on, may_on, fewer_left}
use Rattle.pce_element.proofs.making.issue_all.Goals as goal

pub loop-segment-preserved : goal.loop-segment-preserved
loop-segment-preserved g c =
    let at = c.loop-segment in
    record {
      all = issued_on c.args.now.0 c.in-Some.segment at.left.items c.pop_front.new.self.items at.keys.kept c.issue.new.self.kept c.in-Some.ensures.items c.in-Ok.ensures.ok ∙ at.invariant.all;
      may = may_on c.args.now.0 c.in-Some.segment at.left.items c.pop_front.new.self.items at.keys.kept c.issue.new.self.kept c.in-Some.ensures.items c.in-Ok.ensures.ok c.next-next.ensures.keys at.invariant.may;
      room = fewer_left c.in-Some.segment at.left.items c.pop_front.new.self.items at.keys.spare c.issue.new.self.spare c.in-Some.ensures.items at.invariant.room c.issue.ensures.room;
    }
