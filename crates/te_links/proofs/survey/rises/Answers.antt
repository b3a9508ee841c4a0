use Rattle.std.proofs.Common.{◌≡◌, inl, inr, ◌-◌, ◌<◌, ◌≤◌, true, false, get_or, refl, sym, ◌∙◌, subst, arith}
use Rattle.std.proofs.lemmas.Bool.{cases_lt}
use Rattle.std.proofs.lemmas.List.{get_or_default}
use Rattle.dom_base.specs.AddrOrder.{rank}
use Rattle.dom_base.specs.declared.addr.Addr.{Addr}
use Rattle.dom_base.specs.declared.addr.Addr.TheVariants.{V4}
use Rattle.te_links.proofs.Compared.{reached_told, not_reached_told}
use Rattle.te_links.proofs.survey.rises.Goals as goal

pub loop-i-init : goal.loop-i-init
loop-i-init c = λ j k d before below inside. absurd (omega arith)

pub loop-i-preserved : goal.loop-i-preserved
loop-i-preserved c = λ j k d before below inside.
    let addrs = c.args.addrs.now in
    let i = c.loop-i.i in
    let no_addr : Addr = V4 0 in
    let up : rank (get_or addrs (i - 1) no_addr) < rank (get_or addrs i no_addr) = not_reached_told _ _ (sym c.ge.ensures ∙ c.if-ge.false) in
    let last : rank (get_or addrs (i - 1) d) < rank (get_or addrs i d) =
    rw (get_or_default addrs (i - 1) d no_addr (omega (arith, c.loop-i-test.true)), get_or_default addrs i d no_addr c.loop-i-test.true) up in
    elim (cases_lt k i) [
      | inl lt ↦ c.loop-i.invariant j k d before lt inside
      | inr ge ↦
          let here : k ≡ i = omega arith in
          subst (λ m. rank (get_or addrs j d) < rank (get_or addrs m d)) (sym here)
          (elim (cases_lt j (i - 1)) [
            | inl lt ↦ let front = c.loop-i.invariant j (i - 1) d lt (omega (arith, c.loop-i.auto.i)) (omega (arith, c.loop-i-test.true)) in omega (arith, front, last)
            | inr le ↦ let there : j ≡ i - 1 = omega arith in subst (λ m. rank (get_or addrs m d) < rank (get_or addrs i d)) (sym there) last
          ])
    ]

pub returns : goal.returns
returns c = (λ _ j k d before below. c.loop-i.invariant j k d before (omega (arith, c.loop-i-test.false)) below, λ _. refl)

pub returns-then-ge : goal.returns-then-ge
returns-then-ge c =
    let i = c.loop-i.i in
    let no_addr : Addr = V4 0 in
    let addrs = c.args.addrs.now in
    let down : rank (get_or addrs i no_addr) ≤ rank (get_or addrs (i - 1) no_addr) = reached_told _ _ (sym c.ge.ensures ∙ c.if-ge.true) in (
      λ is. absurd (let bad : false ≡ true = is in cc),
      λ up. absurd (let h = up (i - 1) i no_addr (omega (arith, c.loop-i.auto.i)) c.loop-i-test.true in omega (arith, h, down)),
    )
