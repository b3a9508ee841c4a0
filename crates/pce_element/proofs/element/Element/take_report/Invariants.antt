use Rattle.std.proofs.Common.{◌≡◌, drop}
use Rattle.pce_common.specs.plant_model.Element.{each}
use Rattle.pce_element.specs.Endings.{failing}
use Rattle.pce_element.specs.Endings.{after, reached}
use Rattle.pce_element.proofs.element.Element.take_report.Given as goal

abbrev pub invariant-loop-rp : goal.invariant-loop-rp
invariant-loop-rp g l = after (reached l.self.losing.element l.ending) (each (failing l.teller.peer l.error) (drop l.rp-index l.report.ids)) ≡ after (reached l.self.losing.element l.initial.ending) (each (failing l.teller.peer l.error) l.report.ids)
