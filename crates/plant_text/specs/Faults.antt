-- Which fault of settings is reported.
use Rattle.std.specs.Prelude.{◌≡◌, true, false, All, [], ◌∷◌, ◌++◌, Option, Some, None, Result, Ok, Err, if◌then◌else◌}
use Rattle.plant_text.specs.declared.fault.NetFault.{NetFault}
use Rattle.plant_text.specs.declared.fault.NetError.{NetError}
use Rattle.plant_text.specs.declared.fault.NetError.TheVariants.{Fault, NoMemory}
use Rattle.plant_text.specs.Rules.{Rules}

-- no test holds
abbrev pub AreObeyed : {X : Type 0} → Rules X → Type 0
AreObeyed rules = All (λ rule. rule.0 ≡ false) rules

-- This is reported: its test holds, and no test before it.
pub record IsFirst {X : Type 0} (rules : Rules X) (x : X) : Type 0 where
  pub passed : Rules X
  pub others : Rules X
  pub place : rules ≡ passed ++ (true, x) ∷ others
  pub before : AreObeyed passed

-- the same as a function: the fault of the first test that holds
abbrev pub first_of : {X : Type 0} → Rules X → Option X
first_of [] = None
first_of (rule ∷ others) = if rule.0 then Some rule.1 else first_of others

-- the fault that is reported, unless memory ran out
abbrev pub IsTold : Option NetFault → NetError → Type 0
IsTold first (Fault fault) = first ≡ Some fault
IsTold first NoMemory = Unit {0}

-- the answer of a check: no fault exactly where no test holds, else that of the first test that holds
abbrev pub Tells : {A : Type 0} → Rules NetFault → Result A NetError → Type 0
Tells rules (Ok a) = first_of rules ≡ None
Tells rules (Err e) = IsTold (first_of rules) e
