use Rattle.std.proofs.Common.{◌≡◌, true, sym, subst}
use Rattle.plant_text.specs.Settings.{is_element}
use Rattle.pce_common.specs.plant_model.Blind.{Nothing, show_nothing}
use Rattle.pce_common.specs.Membership.{KeysBefore}
use Rattle.network_members.specs.Becoming.{unchanged}
use Rattle.network_members.specs.Blind.{nothing_first, told_below}
use Rattle.network_members.specs.Tiers.{Tiers, members_of}
use Rattle.network_members.specs.TierFields.{tiers_of}
use Rattle.network_members.proofs.BlindLemmas.{clock_there, solves_as, solves_below}
use Rattle.network_members.proofs.StepLemmas as step
use Rattle.network_members.proofs.TierLemmas.{set_below}
use Rattle.network_members.proofs.blind.Hierarchy+Blind.solve_below.Goals as goal

pub solve-requires-clause-there : goal.solve-requires-clause-there
solve-requires-clause-there c =
    step.has_element nothing_first show_nothing (tiers_of c.self.inside.network c.self.inside.clock.0 c.self.inside.elements c.self.inside.parent) c.args.at c.self.invariant
    (subst (λ (t : Tiers Nothing Nothing). is_element t.network c.args.at ≡ true) (sym c.self.view_is) c.requires.there)

pub solve-requires-clause-clock : goal.solve-requires-clause-clock
solve-requires-clause-clock c =
    clock_there c.args.at c.args.now.0 (tiers_of c.self.inside.network c.self.inside.clock.0 c.self.inside.elements c.self.inside.parent)
    (subst (λ (t : Tiers Nothing Nothing). is_element t.network c.args.at ≡ true) (sym c.self.view_is) c.requires.there)
    (subst (λ (t : Tiers Nothing Nothing). KeysBefore c.args.now.0 t.network (members_of nothing_first t)) (sym c.self.view_is) c.requires.clock)

pub invariant_of-self : goal.invariant_of-self
invariant_of-self c = set_below c.args.at unchanged (tiers_of c.self.inside.network c.self.inside.clock.0 c.self.inside.elements c.self.inside.parent) c.solve.new.self c.solve.ensures.same c.self.invariant

pub returns : goal.returns
returns c =
    let t = tiers_of c.self.inside.network c.self.inside.clock.0 c.self.inside.elements c.self.inside.parent in
    solves_as t c.args.self.now c.self.view_is c.args.at c.args.number c.args.rows.now c.args.now.0 (told_below c.args.at c.solve.result) c.told_below.result _ (sym c.told_below.ensures)
    (solves_below c.args.at c.args.number c.args.rows.now c.args.now.0 t c.solve.new.self c.self.invariant c.requires.below (subst (λ (u : Tiers Nothing Nothing). is_element u.network c.args.at ≡ true) (sym c.self.view_is) c.requires.there)
    c.solve.ensures.same c.solve.result c.solve.ensures.from c.solve.ensures.taken)
