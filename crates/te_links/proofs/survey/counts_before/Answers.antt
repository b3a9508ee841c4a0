use Rattle.std.proofs.Common.{◌≡◌, ◌+◌, ◌≤◌, ◌++◌, ◌∷◌, [], ◌∙◌, length, take, sym, ap, subst, arith}
use Rattle.std.specs.Prelude.{count_by, unwrap_or}
use Rattle.std.specs.BTreeMap.{is_at, get}
use Rattle.std.proofs.lemmas.List.{take_more, take_all, length-take-le}
use Rattle.std.proofs.lemmas.List.Sums.{count_by-le-length}
use Rattle.te_links.specs.Survey.{CountsBefore}
use Rattle.te_links.proofs.Counting.{counts_none, counts_more, seen_none, seen_more}
use Rattle.te_links.proofs.survey.counts_before.Goals as goal

pub loop-key-init : goal.loop-key-init
loop-key-init g c = record {
  told = rw c.in_ok-counts.ensures.items (counts_none g.K.Ord.cmp);
  seen = seen_none g.K.Ord.cmp c.new-seen.result c.new-seen.ensures.empty;
}

pub loop-key-preserved : goal.loop-key-preserved
loop-key-preserved g c =
    let keys = c.args.keys.now in
    let i = c.loop-key.key-index in
    let x = c.key-item.result in
    let v = c.unwrap_or-count.result in
    let was : v ≡ unwrap_or (get g.K.Ord.cmp c.loop-key.seen x) 0 = c.unwrap_or-count.ensures ∙ ap (λ o. unwrap_or o 0) (c.copied.ensures ∙ c.get.ensures.value) in
    let more : take (i + 1) keys ≡ take i keys ++ x ∷ [] = take_more keys i x c.loop-key-test.true ∙ ap (λ y. take i keys ++ y ∷ []) (sym c.key-item.is) in
    record {
      told = rw (c.in_ok-push.ensures.items, more) (counts_more g.K.Ord.cmp (take i keys) c.loop-key.counts.items x v c.loop-key.invariant.told (was ∙ c.loop-key.invariant.seen x));
      seen = rw more (seen_more g.K.Ord.cmp c.requires (take i keys) c.loop-key.seen c.insert.new.self x v was c.in_ok-insert.ensures.updates.0 c.loop-key.invariant.seen);
    }

pub returns : goal.returns
returns g c =
    subst (λ keys. CountsBefore g.K.Ord.cmp keys c.loop-key.counts.items) (take_all c.loop-key.key-index c.args.keys.now c.loop-key-test.false) c.loop-key.invariant.told

pub overflow_add-count : goal.overflow_add-count
overflow_add-count g c =
    let keys = c.args.keys.now in
    let i = c.loop-key.key-index in
    let x = c.key-item.result in
    let v = c.unwrap_or-count.result in
    let was : v ≡ unwrap_or (get g.K.Ord.cmp c.loop-key.seen x) 0 = c.unwrap_or-count.ensures ∙ ap (λ o. unwrap_or o 0) (c.copied.ensures ∙ c.get.ensures.value) in
    let bound : count_by (is_at (g.K.Ord.cmp x)) (take i keys) ≤ length (take i keys) = count_by-le-length (is_at (g.K.Ord.cmp x)) (take i keys) in
    let short : length (take i keys) ≡ i = length-take-le i keys (omega (arith, c.loop-key-test.true)) in
    let count : v ≡ count_by (is_at (g.K.Ord.cmp x)) (take i keys) = was ∙ c.loop-key.invariant.seen x in
    omega (arith, bound, short, count, c.loop-key-test.true)
