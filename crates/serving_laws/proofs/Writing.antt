-- The record that a server leaves is one of the day that its recorder has seen.
use Rattle.std.proofs.Common.{ℕ, List, [], ◌∷◌, ◌++◌, true, sym, subst}
use Rattle.std.specs.Prelude.{Contains}
use Rattle.event_tape.specs.Hands.{AreWhole, told_of}
use Rattle.event_tape.specs.declared.tape.Handed.{Handed}
use Rattle.plant_network.specs.Topologies.{whole}
use Rattle.kept_plant.specs.Handing.{AreAmong, hands_in}
use Rattle.kept_plant.specs.Turns.{kept_of}
use Rattle.kept_plant.specs.declared.acts.KeptAct.{KeptAct}
use Rattle.kept_plant.specs.declared.acts.KeptAnswer.{KeptAnswer}
use Rattle.kept_plant.proofs.Handing.{hands_among}
use Rattle.turn_desk.proofs.Found.{own_is_seen}
use Rattle.network_serving.specs.Records.{HasTapeOf, IsTapeOf}
use Rattle.record_laws.specs.Days.{AreHandsOf}
use Rattle.record_laws.specs.Replayed.{RecordsAreReplayed}
use Rattle.record_laws.proofs.Leaving.{ends_are_records}
use Rattle.serving_laws.specs.Writing.{ServedRecordsAreReplayed}
use Rattle.serving_laws.proofs.Opening.{servers_have_days}

among_front : (hs own stray : List Handed) → AreAmong (own ++ stray) hs → AreAmong own hs
among_front hs [] stray all = tt
among_front hs (h ∷ own) stray all = (all.0, among_front hs own stray all.1)

pub served_records : RecordsAreReplayed → ServedRecordsAreReplayed
served_records replayed files n x first m kept is s c e held holds lines are span turns text end r =
    let tape : IsTapeOf true n (whole kept.plant) kept.tape = subst (HasTapeOf true n) is m.taped.0 in
    let seen : AreAmong (hands_in s.own) (hands_in s.seen) =
    hands_among s.own s.seen (λ entry in_own. own_is_seen s.seen e.places entry (subst (λ (es : List (KeptAct × KeptAnswer)). Contains es entry) e.own in_own)) in
    let hands : AreHandsOf (kept_of kept) s.seen e.hands = (
      among_front (hands_in s.seen) e.hands e.stray (subst (λ (hs : List Handed). AreAmong hs (hands_in s.seen)) e.handed seen),
      subst (λ (k : ℕ). AreWhole k e.hands) (sym tape.1) e.are_whole,
    ) in
    replayed n m.ready.loaded.entries (kept_of kept) s.seen (servers_have_days files n x first m kept is s e.start e.legal e.given) e.hands hands c
    (ends_are_records n e.title e.is_title (told_of e.hands) e.end c e.left) held holds lines are span turns text end r
