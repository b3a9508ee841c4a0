use Rattle.std.proofs.Common.{◌<◌, ℕ, arith}
use Rattle.std.proofs.lemmas.List.Elements.{All-from_get_or}
use Rattle.plant_client.proofs.question.are_octets.Goals as goal

pub returns : goal.returns
returns c = All-from_get_or (λ (b : ℕ). b < 256) c.args._bytes.now 0 (λ k inside. omega (arith, c.type_inv._bytes k))
