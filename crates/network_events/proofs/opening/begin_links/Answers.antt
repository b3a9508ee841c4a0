use Rattle.std.proofs.Common.{◌≡◌, ◌∙◌, [], ap, refl}
use Rattle.dom_base.specs.declared.names.Peer.TheVariants.{Inner}
use Rattle.plant_text.specs.Settings.{has_adjacency, adjacencies}
use Rattle.pce_common.specs.plant_model.State.{State}
use Rattle.pce_common.specs.plant_model.Deeds.{Going}
use Rattle.network_links.specs.Carried.{flow_of}
use Rattle.network_links.specs.Flow.{Flow}
use Rattle.network_events.specs.Standing.{state_of}
use Rattle.network_events.proofs.LetterLaws.{keeps_grown}
use Rattle.network_events.proofs.OpeningLaws.{begun_accesses, begun_clock, opens_roomy}
use Rattle.network_events.proofs.opening.begin_links.Goals as goal

pub returns-clause-room : goal.returns-clause-room
returns-clause-room g c =
    let n = (g.M.Members.stands c.args.members.now).network in
    let ms = (g.M.Members.stands c.args.members.now).seen in
    let f0 = flow_of c.args.traffic.now in
    let f1 = flow_of c.begin_all.new.traffic in
    let f2 = flow_of c.clear_said.new.self in
    let f3 = flow_of c.keep_all.new.traffic in
    let f4 = flow_of c.reserve_words.new.traffic in
    let start : Going g.M.Members.Pin g.M.Members.Key = record { state = state_of ms f0; deeds = [] } in
    let begun = c.in_ok-begin_all.ensures.goes start (record { state = refl; said = c.requires.bare.said }) in
    let accesses : f1.accesses ≡ f0.accesses = ap (λ (s : State g.M.Members.Pin g.M.Members.Key). s.accesses) begun.state ∙ begun_accesses g.M.Members.show n ms (g.M.Members.stands c.args.members.now).lost f0.adjacencies start in
    let adjacencies_are : f2.adjacencies ≡ adjacencies n = ap (λ (f : Flow). f.adjacencies) c.clear_said.ensures.kept ∙ c.in_ok-begin_all.ensures.adjacencies ∙ c.requires.bare.adjacencies_are in
    opens_roomy n ms f0 f4 c.requires.bare c.requires.nothing
    (ap (λ (f : Flow). f.accesses) c.reserve_words.ensures.grows.same ∙ ap (λ (f : Flow). f.accesses) c.keep_all.ensures.grows.same ∙ ap (λ (f : Flow). f.accesses) c.clear_said.ensures.kept ∙ accesses)
    (ap (λ (f : Flow). f.adjacencies) c.reserve_words.ensures.grows.same ∙ ap (λ (f : Flow). f.adjacencies) c.keep_all.ensures.grows.same ∙ ap (λ (f : Flow). f.adjacencies) c.clear_said.ensures.kept ∙ c.in_ok-begin_all.ensures.adjacencies)
    (ap (λ (f : Flow). f.peers) c.reserve_words.ensures.grows.same ∙ ap (λ (f : Flow). f.peers) c.keep_all.ensures.grows.same ∙ ap (λ (f : Flow). f.peers) c.clear_said.ensures.kept ∙ c.in_ok-begin_all.ensures.peers)
    (ap (λ (f : Flow). f.said) c.reserve_words.ensures.grows.same ∙ ap (λ (f : Flow). f.said) c.keep_all.ensures.grows.same ∙ ap (λ (f : Flow). f.said) c.clear_said.ensures.kept)
    (λ a b is. keeps_grown a (Inner b) 0 0 f3 f4 c.reserve_words.ensures.grows (c.in_ok-keep_all.ensures.keeps a b (ap (has_adjacency a b) adjacencies_are ∙ is)))
    c.in_ok-reserve_words.ensures.covers

pub returns-clause-clock : goal.returns-clause-clock
returns-clause-clock g c =
    let n = (g.M.Members.stands c.args.members.now).network in
    let ms = (g.M.Members.stands c.args.members.now).seen in
    let f0 = flow_of c.args.traffic.now in
    let f1 = flow_of c.begin_all.new.traffic in
    let start : Going g.M.Members.Pin g.M.Members.Key = record { state = state_of ms f0; deeds = [] } in
    let begun = c.in_ok-begin_all.ensures.goes start (record { state = refl; said = c.requires.bare.said }) in
    let clock : f1.clock ≡ f0.clock = ap (λ (s : State g.M.Members.Pin g.M.Members.Key). s.clock) begun.state ∙ begun_clock g.M.Members.show n ms (g.M.Members.stands c.args.members.now).lost f0.adjacencies start in
    ap (λ (f : Flow). f.clock) c.reserve_words.ensures.grows.same ∙ ap (λ (f : Flow). f.clock) c.keep_all.ensures.grows.same ∙ ap (λ (f : Flow). f.clock) c.clear_said.ensures.kept ∙ clock ∙ c.requires.bare.clock
