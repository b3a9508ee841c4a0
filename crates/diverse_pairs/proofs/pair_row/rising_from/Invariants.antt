use Rattle.std.proofs.Common.{◌≡◌, ◌+◌, length}
use Rattle.dom_base.specs.AddrOrder.{rank}
use Rattle.path_certificate.proofs.Gathering.{in_front}
use Rattle.diverse_pairs.specs.RowText.{rising_in, rising_behind}
use Rattle.diverse_pairs.proofs.pair_row.rising_from.Given as goal

-- the addresses so far and those of the words that are left are those of all words
abbrev pub invariant-loop-word : goal.invariant-loop-word
invariant-loop-word l = in_front l.nodes (rising_in (rank l.last + 1) l.words) ≡ rising_behind l.fn.start l.fn.words

abbrev pub decreases-loop-word : goal.decreases-loop-word
decreases-loop-word l = length l.words
