-- The settings break no rule.
use Rattle.std.proofs.Common.{◌≡◌, ◌∙◌, Some, None, true, ◌∷◌, refl, sym, ap}
use Rattle.dom_base.specs.AddrOrder.{rank}
use Rattle.plant_text.specs.declared.fault.NetFault.{NetFault}
use Rattle.plant_text.specs.Faults.{IsFirst, first_of}
use Rattle.plant_text.specs.Rules.{Rules, rules_of}
use Rattle.plant_text.proofs.RuleLaws.{first_behind, none_of}
use Rattle.network_files.specs.DrawnSettings.{settings}

pub none_broken : first_of (rules_of settings) ≡ None
unfolding rank
none_broken = refl

pub first_told : {X : Type 0} (rs : Rules X) (x : X) → IsFirst rs x → first_of rs ≡ Some x
first_told rs x is = ap first_of is.place ∙ first_behind is.passed ((true, x) ∷ is.others) (none_of is.passed is.before)

pub no_fault : (fault : NetFault) → IsFirst (rules_of settings) fault → ⊥
no_fault fault is = let never : None ≡ Some fault = sym none_broken ∙ first_told (rules_of settings) fault is in absurd (cc)
