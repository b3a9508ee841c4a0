use Rattle.std.proofs.Common.{◌≡◌, ◌<◌, All, Some}
use Rattle.ted_watch.specs.declared.shown.Shown.{Shown}
use Rattle.ted_watch.specs.Published.{last_of}
use Rattle.ted_watch.specs.Watch.{published}
use Rattle.worked_parts.proofs.watching.show_all.Given as goal

-- all that was shown is of AS 1, with lower generations
abbrev pub invariant-loop-generation : goal.invariant-loop-generation
invariant-loop-generation g l =
    All (λ s. s.at.0 ≡ 1) (published l.publisher) × ((t : Shown) → last_of 1 (published l.publisher) ≡ Some t → t.generation < l.generation)
