use Rattle.std.proofs.Common.{List, [], ◌∷◌, ◌++◌, ◌∙◌, arith, ap, sym}
use Rattle.std.proofs.lemmas.List.{nil_from_length}
use Rattle.dom_base.proofs.Ranks.{Decides-rank}
use Rattle.pce_common.specs.plant_model.Types.{Best}
use Rattle.pce_element.proofs.JoinLemmas.{behind_other, first_way, with_last}
use Rattle.pce_element.proofs.joining.take_in.Goals as goal

pub returns-in_default : goal.returns-in_default
returns-in_default c =
    let cases = c.in_default.ensures.cases in
    let before = nil_from_length c.args.best.now.items (omega (arith, cases.0)) in
    let after = nil_from_length c.pop.new.self.items (omega (arith, cases.1)) in
    first_way c.args.best.now.items c.args.way _ before (c.in_ok-push.ensures.items ∙ ap (λ (bs : List Best). bs ++ c.args.way ∷ []) after)

pub returns-then-eq : goal.returns-then-eq
returns-then-eq c =
    with_last c.args.best.now.items c.pop.new.self.items c.in-Some.last c.args.way c.cheaper.result _ c.in-Some.ensures.items ((Decides-rank c.in-Some.last.entry c.args.way.entry).0 (sym c.if-eq.ensures)) c.cheaper.ensures c.in_ok-push-2.ensures.items

pub returns : goal.returns
returns c =
    let same = Decides-rank c.in-Some.last.entry c.args.way.entry in
    behind_other c.args.best.now.items c.pop.new.self.items c.in-Some.last c.args.way _ c.in-Some.ensures.items (λ is. let yes = same.1 is in let no_ = c.if-eq.ensures in cc)
    (c.in_ok-push-4.ensures.items ∙ ap (λ (bs : List Best). bs ++ c.args.way ∷ []) c.in_ok-push-3.ensures.items)
