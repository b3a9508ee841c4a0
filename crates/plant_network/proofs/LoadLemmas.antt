-- An element of a network loads a topology.
use Rattle.std.proofs.Common.{◌≡◌, ℕ, ◌+◌, ◌*◌, length, Result, Ok, Err, List, [], ◌∷◌, refl, sym, ◌∙◌, ap, ap₂, subst}
use Rattle.network_events.specs.plant_model.Types.{As, NetworkParts}
use Rattle.te_links.specs.Rows.{Rows}
use Rattle.network_events.specs.plant_model.declared.event.Event.TheVariants as event
use Rattle.network_events.specs.plant_model.declared.outcome.Refused.{Refused}
use Rattle.network_events.specs.plant_model.Element.{Element}
use Rattle.network_events.specs.plant_model.Parent.{Parent}
use Rattle.network_events.specs.plant_model.Plant.{Pin, Segment, Plant, Steps}
use Rattle.network_events.specs.plant_model.RealWire.{wire}
use Rattle.network_events.specs.network_links.Carried.{Carried, flow_of}
use Rattle.network_events.specs.network_links.Flow.{Flow, ClearsSaid}
use Rattle.network_events.specs.pce_common.Membership.{Membership}
use Rattle.network_events.specs.pce_common.Owed.{pending_at}
use Rattle.plant_queues.specs.Messages.{Covers}
use Rattle.network_events.specs.network_links.declared.TheConstants.{ANSWER_LENGTH, OWN_LENGTH}
use Rattle.plant_text.specs.Settings.{elements_of}
use Rattle.network_events.specs.Passing.{IsOf}
use Rattle.network_events.specs.Rooms.{IsRoomy, own_most, said_in_all}
use Rattle.network_events.proofs.FeedLaws.{cleared_roomy}
use Rattle.network_events.proofs.RoomySteps.{emptied_keeps}
use Rattle.network_members.specs.Loading.{Loads, answer_of, deeds_of}
use Rattle.network_members.specs.Tiers.{lost_in}
use Rattle.network_members.specs.Topologies.{Tiers, members_of}
use Rattle.network_events.proofs.StepLemmas.{kept}
use Rattle.plant_network.specs.Topologies.{Held, held, standing, whole, IsSound, Moves}

module _ (d : As) (g : Rows) (old : Held) (r : Result ℕ Refused) (t : Tiers) (loads : Loads d g old.members r t) where
  abbrev n : NetworkParts
  n = old.members.network

  -- with another topology, whatever requests there are
  abbrev with_current : Membership Pin Segment → Membership Pin Segment
  with_current ms = record ms { current = (members_of t).current }

  pending_current : (ds : List As) → pending_at ds (with_current (members_of old.members)) ≡ pending_at ds (members_of old.members)
  pending_current [] = refl
  pending_current (d' ∷ ds) = ap (λ (k : ℕ). length ((members_of old.members).elements d').pending.rows + k) (pending_current ds)

  other_current : (f : Flow) → IsRoomy n (members_of old.members) f → IsRoomy n (with_current (members_of old.members)) f
  other_current f roomy = record {
    answers = record { live = roomy.answers.live; dead = roomy.answers.dead };
    said =
        subst (λ (k : ℕ). let pending = length (members_of old.members).parent.pending.rows + k in Covers (said_in_all f) (own_most n + pending) (OWN_LENGTH * own_most n + ANSWER_LENGTH * pending))
        (sym (pending_current (elements_of n.elements))) roomy.said;
  }

  members_are : with_current (members_of old.members) ≡ members_of t
  members_are = ap₂ (λ (es : As → Element Pin Segment) (p : Parent). let ms : Membership Pin Segment = record { elements = es; parent = p; current = (members_of t).current } in ms) (sym loads.elements) (sym loads.parent)

  roomy_on : (f : Flow) → IsRoomy n (members_of old.members) f → IsRoomy n (members_of t) f
  roomy_on f roomy = subst (λ (ms : Membership Pin Segment). IsRoomy n ms f) members_are (other_current f roomy)

  -- the state with this flow
  abbrev state_at : Parent → Flow → Plant
  state_at p f = record { clock = f.clock; elements = (members_of t).elements; parent = p; current = (members_of t).current; accesses = f.accesses; sessions = f.sessions; queues = f.queues }

  steps_to : (f : Flow) → state_at (members_of t).parent (flow_of old.carried) ≡ state_at (members_of t).parent f →
      Steps wire n (whole old).state (event.Load d g) (record { answer = answer_of r; state = state_at (members_of t).parent f; deeds = deeds_of d g r })
  steps_to f same =
      subst (λ (s : Plant). Steps wire n (whole old).state (event.Load d g) (record { answer = answer_of r; state = s; deeds = deeds_of d g r }))
      (ap (λ (p : Parent). state_at p (flow_of old.carried)) (sym loads.parent) ∙ same) (loads.steps (whole old).state)

  none_on : IsSound old → (d' : As) → lost_in t d' ≡ []
  none_on sound d' = ap (λ (ls : As → List _). ls d') loads.lost ∙ sound.kept.none d'

pub load_refused : (d : As) (g : Rows) (old : Held) (why : Refused) (t : Tiers) → IsSound old → Loads d g old.members (Err why) t → Moves old (event.Load d g) (Err why) (held t old.carried)
load_refused d g old why t sound loads = record {
  stepped = record { network = loads.network; deeds = []; steps = steps_to d g old (Err why) t loads (flow_of old.carried) refl; accepted = tt; refused = refl };
  kept = kept (standing old) (standing (held t old.carried)) loads.network sound.kept.of (none_on d g old (Err why) t loads sound) (roomy_on d g old (Err why) t loads (flow_of old.carried) sound.kept.roomy);
}

pub load_accepted : (d : As) (g : Rows) (old : Held) (k : ℕ) (t : Tiers) (carried : Carried) → IsSound old → Loads d g old.members (Ok k) t → ClearsSaid (flow_of old.carried) (flow_of carried) → Moves old (event.Load d g) (answer_of (Ok k)) (held t carried)
load_accepted d g old k t carried sound loads clears = record {
  stepped = record {
    network = loads.network;
    deeds = deeds_of d g (Ok k);
    steps = steps_to d g old (Ok k) t loads (flow_of carried) (ap (state_at d g old (Ok k) t loads (members_of t).parent) (sym clears.kept));
    accepted = ap (λ (f : Flow). f.said) clears.kept;
    refused = tt;
  };
  kept = kept (standing old) (standing (held t carried)) loads.network of (none_on d g old (Ok k) t loads sound)
      (cleared_roomy old.members.network (members_of t) (flow_of old.carried) (flow_of carried) clears (emptied_keeps old.members.network (members_of t) (flow_of old.carried) (roomy_on d g old (Ok k) t loads (flow_of old.carried) sound.kept.roomy)));
}
  where
    of : IsOf old.members.network (flow_of carried)
    of = record { adjacencies_are = ap (λ (f : Flow). f.adjacencies) clears.kept ∙ sound.kept.of.adjacencies_are; peers_are = ap (λ (f : Flow). f.peers) clears.kept ∙ sound.kept.of.peers_are }
