use Rattle.std.proofs.Common.{◌≡◌, ◌∙◌, sym, ap, arith}
use Rattle.dom_base.specs.declared.query.Label.{Label}
use Rattle.dom_base.proofs.Ranks.{Decides-rank}
use Rattle.path_certificate.proofs.offers.Offer.is.Goals as goal

pub returns-then-get-self : goal.returns-then-get-self
returns-then-get-self c =
    let label = c.args.label.now in
    let offer = c.args.self.now in
    let told = Decides-rank label.exit offer.rest.exit in
    let cost : label.cost ≡ offer.cost = omega (arith, c.get.ensures.number, c.if-get-self.true) in (
      λ is.
          ap (λ n. let l : Label = record { cost = n; exit = label.exit } in l) cost
          ∙ ap (λ e. let l : Label = record { cost = offer.cost; exit = e } in l) (told.0 (sym c.eq.ensures ∙ is)),
      λ same. c.eq.ensures ∙ told.1 (ap (λ (l : Label). l.exit) same),
    )
