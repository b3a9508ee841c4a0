-- Messages as an element and the parent take them.
use Rattle.std.specs.Prelude.{ℕ, ◌≤◌, true, false, length, List, [], ◌∷◌, ◌++◌}
use Rattle.plant_model.specs.Types.{Addr, Object, Wanted, Message}
use Rattle.pcep_codes.specs.declared.classes.TheConstants as classes
use Rattle.pcep_objects.specs.declared.object.Body.TheVariants as bodies
use Rattle.pcep_messages.specs.Requests.{type_of_metric}
use Rattle.plant_model.specs.Writing.{bandwidth, bound, ends, lspa, needed, vspt_flag}
use Rattle.pcep_messages.specs.declared.message.Message.TheVariants as messages

-- at most one request or reply
abbrev pub HasOnePart : Message → Type 0
HasOnePart (messages.PcReq asks) = length asks ≤ 1
HasOnePart (messages.PcRep replies) = length replies ≤ 1
HasOnePart (messages.PcNtf notices) = Unit {0}
HasOnePart (messages.PcErr reports) = Unit {0}
HasOnePart (messages.Open body) = Unit {0}
HasOnePart messages.Keepalive = Unit {0}
HasOnePart (messages.Close reason) = Unit {0}
HasOnePart (messages.Other kind) = Unit {0}

-- the objects of a request that is sent on, before its domains and exclusions
abbrev pub first_objects : ℕ → Wanted → Addr → List Object
first_objects id w target =
    needed classes.RP (bodies.Rp vspt_flag id) ∷ ends w.source target ∷ []
    ++ lspa w.masks ++ bandwidth w.bandwidth_word ++ needed classes.METRIC (bodies.Metric false true (type_of_metric w.query.metric) 0) ∷ []
    ++ bound w.query.metric w.bound_word
