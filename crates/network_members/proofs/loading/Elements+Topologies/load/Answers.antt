use Rattle.std.proofs.Common.{◌≡◌, ◌∙◌, ℕ, List, Option, None, Result, Err, arith, map, refl, set, sym, ap, subst}
use Rattle.pce_common.specs.plant_model.Types.{As}
use Rattle.pce_common.specs.plant_model.declared.outcome.Refused.{Refused}
use Rattle.pce_common.specs.plant_model.declared.outcome.Refused.TheVariants.{NoSuchPeer}
use Rattle.pce_element.specs.Seen.{Seen}
use Rattle.network_members.specs.Elements.{at_domain, own_of, told, IsFirstAt, IsNowhere, LoadsAt}
use Rattle.network_members.proofs.DomainLemmas.{first_within, first_own, at_nowhere}
use Rattle.network_members.proofs.PlaceLoads.{loads_at, owns_kept}
use Rattle.pce_common.specs.plant_model.Plant.{Pin, Segment}
use Rattle.network_members.proofs.loading.Elements+Topologies.load.Goals as goal

pub returns-in_default : goal.returns-in_default
returns-in_default c =
    let items = c.self.inside.items.items in
    let nowhere : at_domain c.args.at c.args.self.now ≡ None = ap (at_domain c.args.at) (sym c.self.view_is) ∙ at_nowhere c.args.at items (subst (λ (ds : List As). IsNowhere c.args.at ds) (c.deref.ensures.value ∙ sym c.self.invariant) c.in_default.ensures) in
    subst (λ (o : Option (Seen Pin Segment)). LoadsAt o c.args.topology c.args.self.now (Err NoSuchPeer) c.args.self.now) (sym nowhere) (refl, refl)

pub index_mut-requires : goal.index_mut-requires
index_mut-requires c =
    let items = c.self.inside.items.items in
    let first : IsFirstAt c.args.at c.in-Some.i (map own_of items) = subst (λ (ds : List As). IsFirstAt c.args.at c.in-Some.i ds) (c.deref.ensures.value ∙ sym c.self.invariant) c.in-Some.ensures in
    omega (arith, c.self.inside.items.ok.0, first_within c.args.at c.in-Some.i items first)

pub load-requires : goal.load-requires
load-requires c =
    let items = c.self.inside.items.items in
    let first : IsFirstAt c.args.at c.in-Some.i (map own_of items) = subst (λ (ds : List As). IsFirstAt c.args.at c.in-Some.i ds) (c.deref.ensures.value ∙ sym c.self.invariant) c.in-Some.ensures in
    c.requires.own ∙ sym (ap own_of c.index_mut.ensures.value ∙ first_own c.args.at c.in-Some.i items c.index_mut.result.now first)

pub invariant_of-self : goal.invariant_of-self
invariant_of-self c =
    owns_kept c.in-Some.i c.args.topology c.self.inside.items.items c.index_mut.result.now c.load.new.self c.load.result c.index_mut.ensures.value
    (record { number = c.load.ensures.number; ok = c.load.ensures.ok; full = c.load.ensures.full; err = c.load.ensures.err }) ∙ c.self.invariant

pub returns : goal.returns
returns c =
    let items = c.self.inside.items.items in
    let new = set items c.in-Some.i c.load.new.self in
    let first : IsFirstAt c.args.at c.in-Some.i (map own_of items) = subst (λ (ds : List As). IsFirstAt c.args.at c.in-Some.i ds) (c.deref.ensures.value ∙ sym c.self.invariant) c.in-Some.ensures in
    let loads : LoadsAt (at_domain c.args.at items) c.args.topology items (told c.load.result) new =
    loads_at c.args.at c.in-Some.i c.args.topology items c.index_mut.result.now c.load.new.self c.load.result first c.index_mut.ensures.value
    (record { number = c.load.ensures.number; ok = c.load.ensures.ok; full = c.load.ensures.full; err = c.load.ensures.err }) in
    subst (λ (es : List (Seen Pin Segment)). LoadsAt (at_domain c.args.at es) c.args.topology es c.told.result new) c.self.view_is
    (subst (λ (r : Result ℕ Refused). LoadsAt (at_domain c.args.at items) c.args.topology items r new) (sym c.told.ensures) loads)
