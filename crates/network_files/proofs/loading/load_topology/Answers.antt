use Rattle.std.proofs.Common.{◌==◌, ◌≤◌, ◌+◌, length, arith}
use Rattle.std.specs.Str.Lines.{lines}
use Rattle.std.proofs.lemmas.List.Sums.{count_by-le-length}
use Rattle.network_files.proofs.LineCount.{few_lines}
use Rattle.network_files.proofs.loading.load_topology.Goals as goal

pub read_topology-requires : goal.read_topology-requires
read_topology-requires g c =
    let bytes = c.in_ok-bytes.bytes in
    let few : length (lines bytes) ≤ length bytes + 1 = few_lines bytes (count_by-le-length (λ b. b == 10) bytes) in
    rw c.as_slice.ensures (omega (arith, few, c.in_ok-bytes.ensures.within))
