use Rattle.std.proofs.Common.{rules, arith, refl, ap, ap₂, ◌++◌, sym, ◌∙◌, subst, ◌<◌, ◌∷◌, []}
use Rattle.atomic_table.specs.Table.{rest}
use Rattle.plant_lock.specs.declared.view.Slot.TheVariants.{Empty, Value}
use Rattle.plant_lock.specs.Views.{LeadsTo, LegalFrom}
use Rattle.plant_lock.proofs.Keeps.{advances}
use Rattle.plant_lock.proofs.Turns.{legal_next, turned_slot}
use Rattle.plant_lock.proofs.seat.Turnstile.perform.Goals as goal

pub exchange-requires : goal.exchange-requires
exchange-requires g c = let t = c.requires.slot in (c.requires.here, (Value t.0, t.1 ∙ ap (λ l. (0, Value t.0) ∷ rest l) (sym t.1)))

pub compare_exchange_with-requires : goal.compare_exchange_with-requires
compare_exchange_with-requires g c = let t = c.requires.slot in let tu = g.T.Turned in let asked = c.of-asked.ensures in let told = c.of-told.ensures in let did = c.turn-answer.ensures in
    let p = turned_slot tu.plain tu.admits tu.allows tu.after c.args.seat.now.me c.exchange.new.seat.me c.exchange-2.new.seat.me t.0 c.in-Value.value c.turn-answer.new.self c.exchange.result
    t.1 c.exchange.ensures.2 c.in-Value.is Empty c.exchange.ensures.3 c.exchange-2.ensures.3 in (
      search rules,
      search rules,
      advances tu.plain tu.admits tu.allows tu.after _ _ _ _ c.args.ticket c.exchange-2.new.seat.me _ _ c.turn-answer.new.self (tu.plain c.in-Value.value) c.of-asked.result c.of-told.result _ (omega arith)
          (subst (λ v. 0 < v.shares) (sym p.1) c.requires.live.0) (ap (λ v. v.stage) p.1 ∙ c.requires.live.1) refl refl p.2 refl
          (subst (λ v. LeadsTo tu.plain tu.admits tu.allows tu.after v.start v.seen (tu.plain c.in-Value.value)) (sym p.1) (subst (λ x. LeadsTo tu.plain tu.admits tu.allows tu.after c.args.seat.now.me.0.start c.args.seat.now.me.0.seen (tu.plain x)) p.0 t.2))
          (subst (λ a. tu.admits (tu.plain c.in-Value.value) a) (sym asked) (subst (λ x. tu.admits (tu.plain x) c.args.act) p.0 t.3))
          (subst (λ a. tu.allows (tu.plain c.in-Value.value) a c.of-told.result.value) (sym asked) (subst (λ b. tu.allows (tu.plain c.in-Value.value) c.args.act b) (sym told) did.allowed))
          (did.left ∙ ap₂ (λ a b. tu.after (tu.plain c.in-Value.value) a b) (sym asked) (sym told)),
    )

pub returns-clause-legal : goal.returns-clause-legal
returns-clause-legal g c = let t = c.requires.slot in let tu = g.T.Turned in let asked = c.of-asked.ensures in let told = c.of-told.ensures in let did = c.turn-answer.ensures in
    let p = turned_slot tu.plain tu.admits tu.allows tu.after c.args.seat.now.me c.exchange.new.seat.me c.exchange-2.new.seat.me t.0 c.in-Value.value c.turn-answer.new.self c.exchange.result
    t.1 c.exchange.ensures.2 c.in-Value.is Empty c.exchange.ensures.3 c.exchange-2.ensures.3 in
    let next = legal_next tu.plain tu.admits tu.allows tu.after c.args.seat.now.me.0.start c.args.seat.now.me.0.seen (tu.plain c.in-Value.value) c.args.act c.turn-answer.result c.requires.legal
    (subst (λ x. LeadsTo tu.plain tu.admits tu.allows tu.after c.args.seat.now.me.0.start c.args.seat.now.me.0.seen (tu.plain x)) p.0 t.2) (subst (λ x. tu.admits (tu.plain x) c.args.act) p.0 t.3) did.allowed in
    subst (LegalFrom tu.plain tu.admits tu.allows tu.after c.args.seat.now.me.0.start) (sym (ap (λ m. m.0.seen) c.compare_exchange_with.ensures.2 ∙ (ap (λ v. v.seen ++ (c.of-asked.result.value, c.of-told.result.value) ∷ []) p.1 ∙ ap₂ (λ a b. c.args.seat.now.me.0.seen ++ (a, b) ∷ []) asked told))) next
