use Rattle.std.proofs.Common.{◌<◌, ◌≤◌, ◌∷◌, [], ◌++◌, ℕ, List, subst, sym}
use Rattle.server_loops.specs.OperatorSteps.{IsBegun}
use Rattle.server_loops.proofs.Doing.{pushed_long, pushed_short}
use Rattle.server_loops.proofs.lines.Begun.push.Goals as goal

pub returns-then-len-gt-LINE_MAX-clause-begun : goal.returns-then-len-gt-LINE_MAX-clause-begun
returns-then-len-gt-LINE_MAX-clause-begun c = λ line is.
    pushed_long c.args.self.now.bytes.items c.args.self.now.is_long line c.args.byte is c.requires.inside (subst (λ (k : ℕ). 262144 < k) c.len.ensures c.if-len-gt-LINE_MAX.true)

pub returns-in-Ok-clause-begun : goal.returns-in-Ok-clause-begun
returns-in-Ok-clause-begun c = λ line is.
    subst (λ (l : List ℕ). IsBegun l c.args.self.now.is_long (line ++ c.args.byte ∷ [])) (sym c.in-Ok.ensures.items)
    (pushed_short c.args.self.now.bytes.items c.args.self.now.is_long line c.args.byte is c.requires.inside (subst (λ (k : ℕ). k ≤ 262144) c.len.ensures c.if-len-gt-LINE_MAX.false))
