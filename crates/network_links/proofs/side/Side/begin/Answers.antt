use Rattle.std.proofs.Common.{◌∙◌, ◌++◌, ◌∷◌, [], List, ℕ, ap}
use Rattle.plant_model.specs.Types.{State as Session}
use Rattle.pcep_session.specs.declared.actions.Own.TheVariants.{Open}
use Rattle.plant_model.specs.Deeds.{our_offer}
use Rattle.network_links.specs.Ends.{Roomy, Sender, begun, own_bytes}
use Rattle.network_links.proofs.side.Side.begin.Goals as goal

pub returns-clause-kept : goal.returns-clause-kept
returns-clause-kept c =
    let out = c.self.inside.out.kept in
    let text = own_bytes (Open (our_offer c.args.sid)) in
    c.put.ensures.kept
    ∙ ap (λ (m : List ℕ). let x : Sender = record { session = c.begun_session-self-inside.result; out = out ++ m ∷ [] } in x) (c.as_slice.ensures ∙ c.open_text.ensures)
    ∙ ap (λ (s : Session). let x : Sender = record { session = s; out = out ++ text ∷ [] } in x) c.begun_session-self-inside.ensures
    ∙ ap (λ (x : Roomy Sender). begun c.args.sid c.args.now x.kept) c.self.view_is
