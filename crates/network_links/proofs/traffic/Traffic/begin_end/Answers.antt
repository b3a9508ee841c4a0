use Rattle.std.proofs.Common.{◌≡◌, ◌∙◌, ◌++◌, ◌∷◌, [], List, ℕ, ap, subst}
use Rattle.plant_model.specs.Types.{Offer, Inner}
use Rattle.pcep_session.specs.declared.actions.Own.TheVariants.{Open}
use Rattle.plant_queues.specs.Sents.{sent_of}
use Rattle.plant_model.specs.Deeds.{our_offer}
use Rattle.network_links.specs.Ends.{own_bytes}
use Rattle.network_links.specs.Rooms.{Spends}
use Rattle.network_links.specs.Carried.{Carried, seen, flow_of}
use Rattle.network_links.specs.Flow.{Begins}
use Rattle.network_links.specs.Sides.{row_of}
use Rattle.network_links.specs.TrafficFields.{carried_of}
use Rattle.network_links.proofs.FlowLemmas.{inner_begins}
use Rattle.network_links.proofs.traffic.Traffic.begin_end.Goals as goal

pub returns : goal.returns
returns c =
    let new : Carried = record (carried_of c.self.inside) { links = c.begin.new.self; said = c.put.new.self } in
    let was = c.self.inside.said in
    let now = c.put.new.self in
    let text : c.as_slice.result.now ≡ own_bytes (Open (our_offer c.args.sid)) =
    c.as_slice.ensures ∙ c.own_text-open.ensures ∙ ap (λ (o : Offer). own_bytes (Open o)) c.our_offer.ensures in
    let said : now.kept ≡ was.kept ++ sent_of c.args.at (Inner c.args.to) (own_bytes (Open (our_offer c.args.sid))) ∷ [] =
    c.put.ensures.kept ∙ ap (λ (m : List ℕ). was.kept ++ sent_of c.args.at (Inner c.args.to) m ∷ []) text in
    let spends : Spends c.as_slice.result.now was.spare now.spare = record { messages = c.put.ensures.messages; bytes = c.put.ensures.bytes } in
    subst (λ (x : Carried). Begins c.args.at c.args.to c.args.sid (flow_of x) (flow_of new)) c.self.view_is
    (inner_begins (seen (carried_of c.self.inside)) c.args.at c.args.to (row_of c.begin.new.self) c.args.sid now said
    (subst (λ (m : List ℕ). Spends m was.spare now.spare) text spends) c.begin.ensures)
