-- The calls of an operator at a desk.
use Rattle.std.specs.Prelude.{Option, Some, None}
use Rattle.std.specs.Arc.{arc_value}
use Rattle.std.specs.List.{filter_map}
use Rattle.server_loops.specs.Charts.{Call, Did as DidSo, Mapped as MappedSo, Charted, current_of}
use Rattle.plant_network.specs.declared.acts.Act.{Act}
use Rattle.plant_network.specs.declared.acts.Act.TheVariants.{Do, Map}
use Rattle.plant_network.specs.declared.acts.Acted.{Acted}
use Rattle.plant_network.specs.declared.acts.Acted.TheVariants.{Did, Mapped}
use Rattle.plant_network.specs.declared.acts.ActAnswer.{ActAnswer}
use Rattle.turn_desk.specs.Desks.{Stand}

-- a call of an operator, with its answer
abbrev pub chart_call : Act → Acted → Option Call
chart_call (Do e) (Did r) = Some (DidSo e r)
chart_call (Map d) (Mapped r) = Some (MappedSo d (current_of arc_value r))
chart_call a r = None

-- the calls as a chart are the own entries that are events or questions for a topology
abbrev pub charted_of : Stand → Charted
charted_of s = record { calls = filter_map (λ (e : Act × ActAnswer). chart_call e.0 e.1.acted) s.own; spent = s.spent }

-- the answer to a question for a topology
abbrev pub IsMapped : Acted → Type 0
IsMapped (Mapped r) = Unit {0}
IsMapped a = ⊥
