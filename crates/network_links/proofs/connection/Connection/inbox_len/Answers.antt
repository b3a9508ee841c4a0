use Rattle.std.proofs.Common.{◌∙◌, ap, length, length-append, sym}
use Rattle.plant_model.specs.State.{Connection}
use Rattle.network_links.specs.Ends.{Roomy}
use Rattle.network_links.proofs.connection.Connection.inbox_len.Goals as goal

pub returns : goal.returns
returns c =
    sym (length-append c.as_slices.result.0.now c.as_slices.result.1.now)
    ∙ ap length c.as_slices.ensures.items
    ∙ ap (λ (r : Roomy Connection). length r.kept.inbox) c.self.view_is
