use Rattle.std.proofs.Common.{◌≡◌, ◌∙◌, false, ap}
use Rattle.plant_model.specs.State.{Connection}
use Rattle.plant_model.specs.Events.{is_down}
use Rattle.network_links.specs.Ends.{Roomy, with_kept}
use Rattle.network_links.proofs.InboxLemmas.{fed_is}
use Rattle.network_links.proofs.connection.Connection.feed.Goals as goal

pub returns-clause-ok : goal.returns-clause-ok
returns-clause-ok c =
    let old = c.args.self.now in
    let framing = c.in_ok-arrived.arrived.framer in
    let inbox = c.append_all.new.inbox.items in
    let up : is_down old.kept.session.phase ≡ false = cc in
    ap (λ (r : Roomy Connection). with_kept (record r.kept { framing = framing; inbox = inbox }) r) c.self.view_is
    ∙ fed_is old c.args.piece.now c.self.inside.framer framing c.self.inside.inbox.items c.in_ok-arrived.arrived.items.items inbox
    up (ap (λ (r : Roomy Connection). r.kept.framing) c.self.view_is) (ap (λ (r : Roomy Connection). r.kept.inbox) c.self.view_is)
    c.in_ok-arrived.ensures.framing c.in_ok-arrived.ensures.items c.in_ok-append_all.ensures.ok
