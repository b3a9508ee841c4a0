use Rattle.std.proofs.Common.{◌≡◌, ◌++◌, length}
use Rattle.network_check.specs.Forms.{rest_text}
use Rattle.network_check.proofs.forms.tell_rest.Given as goal

abbrev pub invariant-loop-word : goal.invariant-loop-word
invariant-loop-word l = l.into.items ++ rest_text l.file l.line l.has_groups l.words ≡ l.initial.into.items ++ rest_text l.file l.line l.has_groups l.initial.words

abbrev pub decreases-loop-word : goal.decreases-loop-word
decreases-loop-word l = length l.words
