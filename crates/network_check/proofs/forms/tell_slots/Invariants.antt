use Rattle.std.proofs.Common.{◌≡◌, ◌++◌, drop}
use Rattle.network_check.specs.Forms.{slots_text}
use Rattle.network_check.proofs.forms.tell_slots.Given as goal

abbrev pub invariant-loop-slot : goal.invariant-loop-slot
invariant-loop-slot l =
    l.into.items ++ slots_text l.file l.line l.has_groups (drop l.slot-index l.slots) l.words ≡ l.initial.into.items ++ slots_text l.file l.line l.has_groups l.slots l.initial.words
