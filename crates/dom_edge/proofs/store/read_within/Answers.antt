use Rattle.std.proofs.Common.{◌≡◌, ◌<◌, List, ℕ, length, arith, subst, sym}
use Rattle.std.specs.Prelude.{IfSome}
use Rattle.dom_edge.proofs.Streaming.{whole_within}
use Rattle.dom_edge.proofs.store.read_within.Goals as goal

pub returns-then-len-limit-clause-whole : goal.returns-then-len-limit-clause-whole
returns-then-len-limit-clause-whole g c =
    let got = c.read_to_end.new.buf in
    let few : length got.items < c.take.result.limit =
    omega (arith, c.take.ensures.limit, c.saturating_add-most.ensures, c.if-len-limit.true, c.len.ensures, got.ok, got.small) in
    let all = whole_within (g.R.Read.remaining c.take.result.inner) c.new-bytes.result.items got.items c.take.result.limit
    c.new-bytes.ensures.items few c.in_ok-read_to_end.ensures.bytes in
    subst (λ r. IfSome (g.R.Read.remaining r) (λ left. c.from_vec.result ≡ left)) c.take.ensures.inner
    (subst (λ (v : List ℕ). IfSome (g.R.Read.remaining c.take.result.inner) (λ left. v ≡ left)) (sym c.from_vec.ensures) all)
