use Rattle.std.proofs.Common.{inl, inr, refl}
use Rattle.pce_element.proofs.EndLemmas.{on_ok}
use Rattle.pce_element.proofs.joining.join_row.Goals as goal

pub returns-in-Some : goal.returns-in-Some
returns-in-Some c = on_ok c.take_in.result (λ takes. inr (c.in-Some.way, c.in-Some.ensures, takes)) c.take_in.ensures

pub returns-in-None : goal.returns-in-None
returns-in-None c = inl (c.in-None.ensures, refl)
