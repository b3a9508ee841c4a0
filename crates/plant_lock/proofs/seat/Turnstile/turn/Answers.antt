use Rattle.std.proofs.Common.{[], ◌∷◌, true, ◌++◌, ◌≡◌, length, length-append, arith, ap, sym, ◌∙◌, subst, ◌∷◌}
use Rattle.plant_lock.specs.declared.view.Slot.TheVariants.{Value}
use Rattle.plant_lock.specs.History.{Admitted, all_below, entries_at}
use Rattle.plant_lock.proofs.Lists.{entries_next, all_next, starts_length}
use Rattle.plant_lock.specs.Views.{LeadsTo}
use Rattle.plant_lock.proofs.Turns.{still_admitted}
use Rattle.plant_lock.proofs.seat.Turnstile.turn.Goals as goal

pub perform-answer-requires-clause-slot : goal.perform-answer-requires-clause-slot
perform-answer-requires-clause-slot g c = let tu = g.T.Turned in let was = c.in-Ok.ensures.drawn.1 in let took = c.enter.ensures.taken in let is = took.2 in (
  took.0,
  ap (λ m. m.1) is ∙ ap (λ l. (0, Value took.0) ∷ l) (ap (λ m. m.1) was ∙ c.args.seat.now.rests),
  subst (λ m. LeadsTo tu.plain tu.admits tu.allows tu.after m.0.start m.0.seen (tu.plain took.0)) (sym is) took.6,
  still_admitted tu.plain tu.admits tu.allows tu.after tu.warrants g.met.T.Turned.lasts c.draw.new.seat.me.0.start c.draw.new.seat.me.0.seen took.1 (tu.plain took.0) c.args.act
      (subst (λ m. Admitted tu.admits tu.warrants m.0.seen c.args.act) (sym was) c.requires.act) took.3 took.5 took.6,
)

pub invariant_of-seat-2-clause-within : goal.invariant_of-seat-2-clause-within
invariant_of-seat-2-clause-within g c = let was = c.in-Ok.ensures.drawn.1 in let took = c.enter.ensures.taken in let is = took.2 in let entry = c.perform-answer.ensures.entry in
    let ends = ap (λ m. length m.0.seen) entry ∙ length-append c.enter.new.seat.me.0.seen ((c.args.act, c.perform-answer.result) ∷ []) in let mid = ap (λ m. length m.0.seen) is in let old = ap (λ m. length m.0.seen) was in
    let long = starts_length took.1 c.draw.new.seat.me.0.seen took.3 in let at = took.4 in
    subst (λ l. all_below (length c.perform-answer.new.seat.me.0.seen) l ≡ true) (sym (ap (λ m. m.0.places) entry ∙ ap (λ m. m.0.places ++ c.in-Ok.ticket ∷ []) is ∙ ap (λ m. m.0.places ++ c.in-Ok.ticket ∷ []) was))
    (all_next (length c.args.seat.now.seat.me.0.seen) _ c.in-Ok.ticket c.args.seat.now.seat.me.0.places (omega arith) (omega arith) c.args.seat.now.within)

pub returns-clause-own : goal.returns-clause-own
returns-clause-own g c = let was = c.in-Ok.ensures.drawn.1 in let took = c.enter.ensures.taken in let is = took.2 in let entry = c.perform-answer.ensures.entry in
    let more = took.3.0 in let e : g.row.T-Act.Denot × g.row.T-Answer.Denot = (c.args.act, c.perform-answer.result) in
    let seen = ap (λ m. m.0.seen) entry ∙ ap (λ m. m.0.seen ++ e ∷ []) is ∙ ap (λ l. l ++ e ∷ []) took.3.1 ∙ ap (λ m. (m.0.seen ++ more) ++ e ∷ []) was in
    let places = ap (λ m. m.0.places) entry ∙ ap (λ m. m.0.places ++ c.in-Ok.ticket ∷ []) is ∙ ap (λ m. m.0.places ++ c.in-Ok.ticket ∷ []) was in
    (λ i. entries_at (seen i) (places i)) ∙ entries_next c.args.seat.now.seat.me.0.seen more e c.in-Ok.ticket c.args.seat.now.seat.me.0.places
    (sym took.4 ∙ ap length took.3.1 ∙ ap (λ m. length (m.0.seen ++ more)) was) c.args.seat.now.within
