-- Settings that a text gives obey the rules of a network.
use Rattle.std.proofs.Common.{◌≡◌, ℕ, true, length, List, None, sym, subst, arith}
use Rattle.plant_laws.specs.plant_model.Types.{As, NetworkParts}
use Rattle.plant_text.specs.Faults.{first_of}
use Rattle.plant_text.specs.Networks.{ObeysRules, with_path}
use Rattle.plant_text.specs.Reads.{Reads}
use Rattle.plant_text.specs.Rules.{rules, rules_of}
use Rattle.plant_text.specs.Settings.{is_element as has_element}
use Rattle.plant_text.specs.SettingsText.{sheet_in}
use Rattle.plant_text.proofs.NetworkLaws.{few_peers, holds_more, holds_new, network_of}
use Rattle.plant_text.proofs.RuleLaws.{none_of}
use Rattle.plant_text.proofs.SheetLaws.{settings_clear}

-- they break no rule
unbroken : (bytes : List ℕ) (n : NetworkParts) → Reads bytes n → first_of (rules_of n) ≡ None
unbroken bytes n r =
    let s = sheet_in r.root in
    subst (λ (m : NetworkParts). first_of (rules_of m) ≡ None) (sym r.rows) (settings_clear s (none_of (rules s) r.obeyed))

pub settings_are_network : (bytes : List ℕ) (n : NetworkParts) → Reads bytes n → ObeysRules n
settings_are_network bytes n r = network_of (record { parts = n; given = length n.peers }) (holds_new n (unbroken bytes n r))

pub client_is_added : (bytes : List ℕ) (n : NetworkParts) (at : As) → Reads bytes n → has_element n at ≡ true → ObeysRules (with_path n at)
client_is_added bytes n at r known =
    let none = unbroken bytes n r in
    let few = few_peers n none in
    network_of (record { parts = with_path n at; given = length n.peers }) (holds_more (record { parts = n; given = length n.peers }) at (holds_new n none) known (omega (arith, few)))
