use Rattle.std.proofs.Common.{◌≡◌, ℕ, false, true, nat_eq, inl, inr, refl, ap, rules}
use Rattle.std.proofs.lemmas.Option.{slice_get_within}
use Rattle.std.proofs.lemmas.Bool.Decides.{eqb_tells}
use Rattle.dom_base.specs.AddrOrder.{rank}
use Rattle.dom_base.proofs.Ranks.{same_addr}
use Rattle.path_certificate.specs.Rows.{label_in}
use Rattle.path_certificate.proofs.Leading.{no_link, no_offer, step_is, step_made}
use Rattle.path_certificate.proofs.false_path.step_over.Goals as goal
use Rattle.path_certificate.proofs.false_path.step_over.Goals.{else-eq-via-then-eq+else-is, else-eq-via-else-eq}

differ : (x y : ℕ) → false ≡ nat_eq x y → x ≡ y → ⊥
differ x y unequal is = elim (eqb_tells x y) [ inl t ↦ cc | inr f ↦ f.1 is ]

pub returns-in_err-index : goal.returns-in_err-index
returns-in_err-index c =
    rw c.from_residual.ensures (no_link c.args.topology.now c.args.query.now (label_in c.args.rows.now) c.args.node c.args.label.now c.args.far c.in_err-index.ensures)

pub offer_of-requires-clause-index : goal.offer_of-requires-clause-index
offer_of-requires-clause-index c =
    let at = c.in_ok-index.ensures in
    slice_get_within c.args.topology.now.links c.in_ok-index.index at.link at.at_link

pub returns-in_err-offer : goal.returns-in_err-offer
returns-in_err-offer c =
    rw c.from_residual-in_err-offer.ensures
    (no_offer c.args.topology.now c.args.query.now (label_in c.args.rows.now) c.args.node c.args.label.now c.args.far c.in_ok-index.index c.requires.order c.in_ok-index.ensures
    c.in_err-offer.ensures)

pub returns-then-is : goal.returns-then-is
returns-then-is c =
    let offer = c.in_ok-offer.offer in
    let starts : rank offer.from ≡ rank c.args.node = search rules in
    step_made c.args.topology.now c.args.query.now (label_in c.args.rows.now) c.args.node c.args.label.now c.args.far c.in_ok-index.index offer
    c.in_ok-index.ensures c.in_ok-offer.ensures (same_addr offer.from c.args.node starts) (c.if-is.ensures.0 refl)

pub returns-else-eq : goal.returns-else-eq
returns-else-eq c = λ m b leads.
    let offer = c.in_ok-offer.offer in
    let is = step_is c.args.topology.now c.args.query.now (label_in c.args.rows.now) c.args.node c.args.label.now c.args.far c.in_ok-index.index offer
    c.requires.order c.in_ok-index.ensures c.in_ok-offer.ensures m b leads in
    elim c.else-eq.branch [
      | else-eq-via-then-eq+else-is w ↦ let bad : false ≡ true = w.if-is.ensures.1 is.1 in cc
      | else-eq-via-else-eq w ↦ differ (rank offer.from) (rank c.args.node) w.if-eq.ensures (ap rank is.0)
    ]
