-- Every run of a network that words ask for is worth what is proved of runs.
use Rattle.std.proofs.Common.{◌≡◌, ℕ, List, Option, Some, None, refl}
use Rattle.dom_edge.specs.Stores.{Files}
use Rattle.pce_tool.specs.Headline.{RunsAreWorth}
use Rattle.pce_tool.specs.Tasks.{Task, Blind, Bulk, Check, Domain, Path, Play, Replay, task_of}
use Rattle.pce_tool.proofs.BlindLemmas.{blinds_are_heard}
use Rattle.pce_tool.proofs.BulkLemmas.{bulks_are_worth}
use Rattle.pce_tool.proofs.HeadlineLemmas.{paths_are_worth, plays_are_worth}
use Rattle.pce_tool.proofs.ReplayWorth.{replays_are_worth}
use Rattle.pce_tool.proofs.RouteRanges.{asked_in_range}

pub runs_are_worth : (files : Option Files) (words : List (List ℕ)) → RunsAreWorth files (task_of words)
runs_are_worth files words = go (task_of words) refl
  where
    go : (task : Option Task) → task_of words ≡ task → RunsAreWorth files task
    go None is = tt
    go (Some (Domain c)) is = tt
    go (Some (Play net)) is = plays_are_worth files net
    go (Some (Replay net span)) is = replays_are_worth files net span
    go (Some (Blind net)) is = blinds_are_heard files net
    go (Some (Path net r)) is = paths_are_worth files net r (asked_in_range words net r is)
    go (Some (Bulk n)) is = bulks_are_worth n
    go (Some (Check net)) is = tt
