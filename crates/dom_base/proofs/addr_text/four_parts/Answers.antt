use Rattle.std.proofs.Common.{ℕ, ap, length, arith, eqb}
use Rattle.dom_base.proofs.AddrLaws.{some_parts}
use Rattle.dom_base.proofs.addr_text.four_parts.Goals as goal

pub returns-in-Some : goal.returns-in-Some
returns-in-Some c is =
    let mark : ℕ → _ = λ (k : ℕ). eqb k c.args.mark in
    let rest = c.in-Some._rest.now in
    omega (arith, is, ap length c.in_ok-a.ensures, ap length c.in_ok-b.ensures, ap length c.in_ok-c.ensures, ap length c.in-Some.ensures, some_parts mark rest)
