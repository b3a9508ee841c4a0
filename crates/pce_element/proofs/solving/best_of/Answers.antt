use Rattle.std.proofs.Common.{◌≡◌, ◌∙◌, List, true, false, sym, ap, subst}
use Rattle.std.proofs.lemmas.Result.{IfOk-weaker}
use Rattle.pce_common.specs.plant_model.Types.{As, Wanted, Target}
use Rattle.pce_common.specs.plant_model.Branches.{downs}
use Rattle.pce_common.specs.plant_model.Element.{is_client}
use Rattle.pce_common.specs.plant_model.Jobs.{IsJoinOf, target_along}
use Rattle.pce_element.proofs.BlindLemmas.{client_joins, none_goes_on, other_joins}
use Rattle.pce_element.proofs.JoinLemmas.{heads_told}
use Rattle.pce_element.proofs.solving.best_of.Goals as goal

pub returns-then-is_client-clause-joined : goal.returns-then-is_client-clause-joined
returns-then-is_client-clause-joined c =
    let is : is_client c.args.item.now.class ≡ true = ap is_client (sym c.class.ensures) ∙ sym c.is_client.ensures ∙ c.if-is_client.true in
    client_joins c.args.item.now c.args.rows.now c.args.down.now c.new.result is c.new.ensures

pub returns-then-is_client-clause-goes_on : goal.returns-then-is_client-clause-goes_on
returns-then-is_client-clause-goes_on c = none_goes_on c.args.down.now c.new.result c.new.ensures

pub returns-clause-joined : goal.returns-clause-joined
returns-clause-joined c =
    let i = c.args.item.now in
    let is : is_client i.class ≡ false = ap is_client (sym c.class.ensures) ∙ sym c.is_client.ensures ∙ c.if-is_client.false in
    let asked = c.wanted-wanted.result.now in
    let target : c.target_along-target.result ≡ target_along i.sequence i.wanted.target =
    c.target_along-target.ensures ∙ ap (λ (s : List As). target_along s asked.target) c.sequence.ensures ∙ ap (λ (w : Wanted). target_along i.sequence w.target) c.wanted-wanted.ensures in
    IfOk-weaker c.join_rows.result _ _ (λ best joined.
    other_joins i c.args.rows.now c.args.down.now best is
    (subst (λ (w : Wanted). IsJoinOf w.query.cap (target_along i.sequence i.wanted.target) c.args.rows.now (downs c.args.down.now) best) c.wanted-wanted.ensures
    (subst (λ (t : Target). IsJoinOf asked.query.cap t c.args.rows.now (downs c.args.down.now) best) target joined))) c.join_rows.ensures

pub returns-clause-goes_on : goal.returns-clause-goes_on
returns-clause-goes_on c = IfOk-weaker c.join_rows.result _ _ (λ best joined. heads_told c.wanted-wanted.result.now.query.cap c.target_along-target.result c.args.rows.now c.args.down.now best joined) c.join_rows.ensures
