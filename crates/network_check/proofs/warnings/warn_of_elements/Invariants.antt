use Rattle.std.proofs.Common.{◌≡◌, ◌++◌, drop}
use Rattle.network_check.specs.Warnings.{elements_warnings}
use Rattle.network_check.proofs.warnings.warn_of_elements.Given as goal

abbrev pub invariant-loop-i : goal.invariant-loop-i
invariant-loop-i l = l.into.items ++ elements_warnings l.page.file.now l.page.text.now l.parts l.i (drop l.i l.elements) ≡ l.initial.into.items ++ elements_warnings l.page.file.now l.page.text.now l.parts 0 l.elements
