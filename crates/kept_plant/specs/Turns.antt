-- What may be done to a network and its tape in a turn, which answers are allowed, and what a turn leaves.
use Rattle.std.specs.Prelude.{◌≡◌}
use Rattle.event_tape.specs.Tapes.{Taped, emptied, ended_by, handed_of}
use Rattle.event_tape.specs.declared.tape.TapeEnd.TheVariants as end
use Rattle.plant_network.specs.Topologies.{whole}
use Rattle.plant_network.specs.Turns.{Admits, Allowed, Warrants, left_by}
use Rattle.plant_network.specs.Whole.{Whole}
use Rattle.kept_plant.specs.Tellings.{Folds, told_event}
use Rattle.kept_plant.specs.declared.acts.KeptAct.{KeptAct}
use Rattle.kept_plant.specs.declared.acts.KeptAct.TheVariants.{Turn, Hand, Stop}
use Rattle.kept_plant.specs.declared.acts.KeptAnswer.{KeptAnswer}
use Rattle.kept_plant.specs.declared.acts.KeptAnswer.TheVariants.{Turned, Handed, Stopped}
use Rattle.kept_plant.specs.declared.kept.KeptPlant.{KeptPlant}

pub record Kept : Type 0 where
  pub network : Whole
  pub tape : Taped

abbrev pub kept_of : KeptPlant → Kept
kept_of k = record { network = whole k.plant; tape = k.tape }

abbrev pub KeptAdmits : Kept → KeptAct → Type 0
KeptAdmits s (Turn a) = Admits s.network a
KeptAdmits s a = Unit {0}

abbrev pub KeptAllows : Kept → KeptAct → KeptAnswer → Type 0
KeptAllows s (Turn a) (Turned t tape) = Allowed s.network a t × Folds (told_event a t.acted) s.tape tape.value
KeptAllows s (Hand empty) (Handed h) = h ≡ handed_of s.tape
KeptAllows s Stop Stopped = Unit {0}
KeptAllows s a r = ⊥

abbrev pub kept_after : Kept → KeptAct → KeptAnswer → Kept
kept_after s (Turn a) (Turned t tape) = record { network = left_by s.network a t; tape = tape.value }
kept_after s (Hand empty) (Handed h) = record s { tape = emptied s.tape }
kept_after s Stop Stopped = record s { tape = ended_by end.Stopped s.tape }
kept_after s a r = s

-- what a turn of the network warrants
abbrev pub KeptWarrants : KeptAct → KeptAnswer → KeptAct → Type 0
KeptWarrants (Turn a) (Turned t tape) (Turn next) = Warrants a t.acted next
KeptWarrants a r next = ⊥
