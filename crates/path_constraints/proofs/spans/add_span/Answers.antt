use Rattle.std.proofs.Common.{◌≡◌, ◌<◌, ◌≤◌, ◌-◌, ◌∙◌, ℕ, List, length, get_or, sym, ap, subst, arith, rules}
use Rattle.std.proofs.lemmas.List.{get_or_read}
use Rattle.dom_base.specs.AddrOrder.{rank}
use Rattle.dom_base.specs.declared.addr.Addr.{Addr}
use Rattle.path_constraints.specs.Spans.{AreRising}
use Rattle.path_constraints.proofs.SpanOrder.{is_late, rising_push}
use Rattle.path_constraints.proofs.spans.add_span.Goals as goal
use Rattle.path_constraints.proofs.spans.add_span.Goals.{else-count-gt0-via-then-count-gt0+else-le, else-count-gt0-via-else-count-gt0}

pub returns-clause-rising : goal.returns-clause-rising
returns-clause-rising c =
    let spans : List (Addr × Addr) = c.args.spans.now.items in
    let span : Addr × Addr = c.args.span in
    let later : 0 < length spans → rank (get_or spans (length spans - 1) span).1 ≤ rank span.1 = λ some.
    elim c.else-count-gt0.branch [
      | else-count-gt0-via-then-count-gt0+else-le w ↦
          let last : Addr × Addr = w.index.result.now in
          let place : c.len-count.result ≡ length spans = search rules in
          let at_len : last ≡ get_or spans (length spans - 1) last = w.index.ensures ∙ ap (λ (n : ℕ). get_or spans (n - 1) last) place in
          let this : last ≡ get_or spans (length spans - 1) span = get_or_read spans (length spans - 1) last (omega (arith, some)) at_len span in
          let early : rank last.1 < rank span.1 = is_late (rank span.1) (rank last.1) (sym w.le.ensures ∙ w.if-le.false) in
          let same : rank last.1 ≡ rank (get_or spans (length spans - 1) span).1 = ap (λ (s : Addr × Addr). rank s.1) this in
          omega (arith, early, same)
      | else-count-gt0-via-else-count-gt0 w ↦ absurd (let place : c.len-count.result ≡ length spans = search rules in omega (arith, some, place, w.if-count-gt0.false))
    ] in
    subst AreRising (sym c.in_ok-push.ensures.items) (rising_push spans span c.requires.rising c.requires.leads later)
