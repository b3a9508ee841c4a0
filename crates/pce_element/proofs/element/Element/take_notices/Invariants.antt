use Rattle.std.proofs.Common.{◌≡◌, drop}
use Rattle.pce_common.specs.plant_model.Element.{each}
use Rattle.pce_common.specs.plant_model.Taking.{take_notice}
use Rattle.pce_element.specs.Endings.{after, reached}
use Rattle.pce_element.proofs.element.Element.take_notices.Given as goal

abbrev pub invariant-loop-notice : goal.invariant-loop-notice
invariant-loop-notice g l = after (reached l.self.losing.element l.ending) (each (take_notice l.teller.peer) (drop l.notice-index l.notices)) ≡ each (take_notice l.teller.peer) l.notices l.self.losing.element
