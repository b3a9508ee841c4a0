use Rattle.std.proofs.Common.{IsTrue, Bool, sym, subst}
use Rattle.dom_base.proofs.Ranks.{Decides-rank}
use Rattle.dom_edge.proofs.heeding.is_same.Goals as goal

pub returns : goal.returns
returns c =
    let d = Decides-rank c.args.a c.args.b in
    (λ t. d.0 (subst (λ (b : Bool). IsTrue b) c.eq.ensures t), λ is. subst (λ (b : Bool). IsTrue b) (sym c.eq.ensures) (d.1 is))
