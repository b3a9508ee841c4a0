use Rattle.std.proofs.Common.{arith}
use Rattle.plant_text.proofs.NetworkLaws.{holds_more}
use Rattle.plant_text.proofs.network.Network.with_client.Goals as goal

pub invariant_of-result : goal.invariant_of-result
invariant_of-result c =
    let done = c.in_ok-add_client.ensures in
    rw done.added (holds_more c.self.inside c.args.at c.self.invariant done.element (let room = done.room in omega arith))
