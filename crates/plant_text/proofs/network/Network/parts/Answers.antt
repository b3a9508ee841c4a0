use Rattle.std.proofs.Common.{subst}
use Rattle.plant_text.specs.declared.settings.NetworkParts.{NetworkParts}
use Rattle.plant_text.specs.Networks.{ObeysRules}
use Rattle.plant_text.proofs.NetworkLaws.{network_of}
use Rattle.plant_text.proofs.network.Network.parts.Goals as goal

pub returns-clause-rules : goal.returns-clause-rules
returns-clause-rules c =
    let P : NetworkParts → Type 0 = λ n. ObeysRules n in
    subst P c.self.view_is (network_of c.self.inside c.self.invariant)
