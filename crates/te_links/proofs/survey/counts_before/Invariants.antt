use Rattle.std.proofs.Common.{◌≡◌, take}
use Rattle.std.specs.Prelude.{count_by, unwrap_or}
use Rattle.std.specs.BTreeMap.{is_at, get}
use Rattle.te_links.specs.Survey.{CountsBefore}
use Rattle.te_links.proofs.survey.counts_before.Given as goal

abbrev pub invariant-loop-key : goal.invariant-loop-key
invariant-loop-key g l = record {
  told : CountsBefore g.K.Ord.cmp (take l.key-index l.keys) l.counts.items;
  seen : (q : g.row.K.Denot) → unwrap_or (get g.K.Ord.cmp l.seen q) 0 ≡ count_by (is_at (g.K.Ord.cmp q)) (take l.key-index l.keys);
}
