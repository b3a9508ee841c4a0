use Rattle.std.proofs.Common.{◌≡◌, ◌∷◌, [], ◌++◌, ◌+◌, ◌<◌, ℕ, List, take, drop, length, Ok, Err, ap, sym, subst, ◌∙◌, take-append-drop, arith}
use Rattle.std.proofs.lemmas.Result.{err_from_is_err_and}
use Rattle.std.proofs.lemmas.List.{take_more}
use lib.ListN.{get_or}
use Rattle.ted_watch.specs.Watch.{known}
use Rattle.ted_watch.specs.Serving.{Feeds}
use Rattle.ted_watch.proofs.Pieces.{fed_more, fed_on}
use Rattle.ted_watch.proofs.taking.take_piece.Goals as goal

pub returns-in_err-take_byte-clause-feeds : goal.returns-in_err-take_byte-clause-feeds
returns-in_err-take_byte-clause-feeds g c =
    let p = err_from_is_err_and c.from_residual.result c.from_residual.ensures.1 in
    let end = c.in_err-take_byte.field-0.0 in
    let xs = c.args.piece.now in
    let i = c.loop-byte.byte-index in
    let byte : ℕ = get_or xs i 0 in
    let k0 = known c.args.watcher.now in
    let k2 = known c.take_byte.new.watcher in
    let w0 = g.L.Wire.writing c.args.link.now in
    let w2 = g.L.Wire.writing c.take_byte.new.link in
    let line = c.args.line.now.items in
    let left = c.take_byte.new.line.items in
    let lt : i < length xs = omega (arith, c.loop-byte-test.true) in
    let more : Feeds (take i xs ++ byte ∷ []) (Err end) line left k0 k2 w0 w2 =
    fed_on k0 (known c.loop-byte.watcher) k2 w0 (g.L.Wire.writing c.loop-byte.link) w2 (take i xs) (byte ∷ []) line c.loop-byte.line.items left (Err end) c.loop-byte.invariant.feeds
    (rw c.in_err-take_byte.was at c.take_byte.ensures.feeds) in
    let whole : (take i xs ++ byte ∷ []) ++ drop (i + 1) xs ≡ xs = ap (λ (l : List ℕ). l ++ drop (i + 1) xs) (sym (take_more xs i 0 lt)) ∙ take-append-drop (i + 1) xs in
    rw (p.1, p.2) (subst (λ (l : List ℕ). Feeds l (Err end) line left k0 k2 w0 w2) whole (fed_more (take i xs ++ byte ∷ []) (drop (i + 1) xs) line left end k0 k2 w0 w2 more))

pub loop-byte-preserved : goal.loop-byte-preserved
loop-byte-preserved g c =
    let xs = c.args.piece.now in
    let i = c.loop-byte.byte-index in
    let byte : ℕ = get_or xs i 0 in
    let k0 = known c.args.watcher.now in
    let k2 = known c.take_byte.new.watcher in
    let w0 = g.L.Wire.writing c.args.link.now in
    let w2 = g.L.Wire.writing c.take_byte.new.link in
    let line = c.args.line.now.items in
    let left = c.take_byte.new.line.items in
    let lt : i < length xs = omega (arith, c.loop-byte-test.true) in
    record {
      feeds = subst (λ (l : List ℕ). Feeds l (Ok tt) line left k0 k2 w0 w2) (sym (take_more xs i 0 lt))
          (fed_on k0 (known c.loop-byte.watcher) k2 w0 (g.L.Wire.writing c.loop-byte.link) w2 (take i xs) (byte ∷ []) line c.loop-byte.line.items left (Ok tt) c.loop-byte.invariant.feeds
          (rw c.in_ok-take_byte.was at c.take_byte.ensures.feeds));
      list = c.take_byte.ensures.list ∙ c.loop-byte.invariant.list;
      reading = c.take_byte.ensures.reading ∙ c.loop-byte.invariant.reading;
    }
