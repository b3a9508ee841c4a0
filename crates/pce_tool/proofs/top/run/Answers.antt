use Rattle.std.proofs.Common.{arith, map}
use Rattle.std.proofs.lemmas.List.{length-map}
use Rattle.std.specs.Prelude.{string_bytes}
use Rattle.pce_tool.proofs.RunsAreWorth.{runs_are_worth}
use Rattle.pce_tool.proofs.ShortWords.{three_leave_none}
use Rattle.pce_tool.proofs.Words.{two_words}
use Rattle.pce_tool.proofs.top.run.Goals as goal

pub returns-in-len2-clause-ends : goal.returns-in-len2-clause-ends
returns-in-len2-clause-ends g c =
    let words = two_words c.args.words.now c.verb-item.result c.word-item.result c.in-len2.len_at_least c.in-len2.len_below c.verb-item.is c.word-item.is in
    rw (words, ← c.as_str.ensures.value, ← c.as_str-in-len2.ensures.value) c.run_over.ensures.ends

pub returns-in-len2-clause-usage : goal.returns-in-len2-clause-usage
returns-in-len2-clause-usage g c =
    let words = two_words c.args.words.now c.verb-item.result c.word-item.result c.in-len2.len_at_least c.in-len2.len_below c.verb-item.is c.word-item.is in
    rw (words, ← c.as_str.ensures.value, ← c.as_str-in-len2.ensures.value) c.run_over.ensures.usage

pub returns-in-len2-clause-unread : goal.returns-in-len2-clause-unread
returns-in-len2-clause-unread g c =
    let words = two_words c.args.words.now c.verb-item.result c.word-item.result c.in-len2.len_at_least c.in-len2.len_below c.verb-item.is c.word-item.is in
    rw (words, ← c.as_str.ensures.value, ← c.as_str-in-len2.ensures.value) c.run_over.ensures.unread

pub returns-in-len3-clause-unread : goal.returns-in-len3-clause-unread
returns-in-len3-clause-unread g c =
    let count = length-map c.args.words.now string_bytes in
    λ leaves. absurd (three_leave_none (map string_bytes c.args.words.now) (omega (arith, count, c.in-len3.len_at_least)) (omega (arith, count, c.in-len3.len_below)) leaves)

pub returns-in-len2-clause-worth : goal.returns-in-len2-clause-worth
returns-in-len2-clause-worth g c = runs_are_worth (g.S.Store.files c.args.store.now) (map string_bytes c.args.words.now)

pub returns-in-len3-clause-worth : goal.returns-in-len3-clause-worth
returns-in-len3-clause-worth g c = runs_are_worth (g.S.Store.files c.args.store.now) (map string_bytes c.args.words.now)

pub returns-in-len4-up-clause-worth : goal.returns-in-len4-up-clause-worth
returns-in-len4-up-clause-worth g c = runs_are_worth (g.S.Store.files c.args.store.now) (map string_bytes c.args.words.now)

pub returns-in_default-clause-worth : goal.returns-in_default-clause-worth
returns-in_default-clause-worth g c = runs_are_worth (g.S.Store.files c.args.store.now) (map string_bytes c.args.words.now)
