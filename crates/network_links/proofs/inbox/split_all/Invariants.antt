use Rattle.std.proofs.Common.{◌≡◌, take}
use Rattle.std.specs.List.{flat_map}
use Rattle.network_links.proofs.InboxLemmas.{parts_of}
use Rattle.network_links.proofs.inbox.split_all.Given as goal

abbrev pub invariant-loop-frame : goal.invariant-loop-frame
invariant-loop-frame l = l.items.items ≡ flat_map parts_of (take l.frame-index l.frames)
