use Rattle.std.proofs.Common.{ℕ, ◌+◌, List, ◌++◌, ◌∙◌, ap, arith}
use Rattle.std.specs.Prelude.{slice_range}
use Rattle.plant_play.proofs.ReelLemmas.{cuts_all, cuts_line, cuts_long}
use Rattle.plant_play.proofs.reel.Reel.take.Goals as goal

pub returns-then-len-count-gt-LINE_MAX : goal.returns-then-len-count-gt-LINE_MAX
returns-then-len-count-gt-LINE_MAX c =
    let r = c.self.inside in
    cuts_long r.piece.items r.line.items r.from r.to c.unwrap_or-count.result c.args.end c.args.self.now c.self.invariant.in_order c.self.invariant.within c.self.view_is c.requires c.unwrap_or-count.ensures
    (omega (arith, c.len.ensures, c.if-len-count-gt-LINE_MAX.true)) c.args.self.now

pub returns-in-Some : goal.returns-in-Some
returns-in-Some c =
    let r = c.self.inside in
    let count = c.unwrap_or-count.result in
    cuts_line r.piece.items r.line.items r.from r.to count c.args.end c.args.self.now c.self.invariant.in_order c.self.invariant.within c.self.view_is c.requires c.unwrap_or-count.ensures c.in-Some._place
    c.extend_from_slice.new.self.items c.in-Some.is
    (c.in_ok-extend_from_slice.ensures.items ∙ ap (λ (xs : List ℕ). r.line.items ++ slice_range xs r.from (r.from + count)) c.deref.ensures.value)

pub returns-in-None : goal.returns-in-None
returns-in-None c =
    let r = c.self.inside in
    let count = c.unwrap_or-count.result in
    cuts_all r.piece.items r.line.items r.from r.to count c.args.end c.args.self.now c.self.invariant.in_order c.self.invariant.within c.self.view_is c.requires c.unwrap_or-count.ensures
    c.extend_from_slice.new.self.items c.in-None.is
    (c.in_ok-extend_from_slice.ensures.items ∙ ap (λ (xs : List ℕ). r.line.items ++ slice_range xs r.from (r.from + count)) c.deref.ensures.value)
