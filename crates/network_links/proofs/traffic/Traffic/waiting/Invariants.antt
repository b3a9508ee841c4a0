use Rattle.std.proofs.Common.{take}
use Rattle.network_links.specs.Carried.{flow_of}
use Rattle.network_links.specs.Waiting.{WaitsAmong, ways}
use Rattle.network_links.proofs.traffic.Traffic.waiting.Given as goal

abbrev pub invariant-loop-k : goal.invariant-loop-k
invariant-loop-k l = WaitsAmong (flow_of l.self) (ways (take l.k (flow_of l.self).adjacencies)) l.best
