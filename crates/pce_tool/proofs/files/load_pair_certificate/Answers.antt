use Rattle.std.proofs.Common.{◌==◌, ◌≤◌, ◌+◌, length, arith}
use Rattle.std.specs.Str.Lines.{lines}
use Rattle.std.proofs.lemmas.List.Sums.{count_by-le-length}
use Rattle.network_files.proofs.LineCount.{few_lines}
use Rattle.pce_tool.proofs.files.load_pair_certificate.Goals as goal

pub read_pair-requires : goal.read_pair-requires
read_pair-requires g c =
    let bytes = c.in_ok-bytes.bytes in
    let few : length (lines bytes) ≤ length bytes + 1 = few_lines bytes (count_by-le-length (λ b. b == 10) bytes) in
    rw c.as_slice.ensures (omega (arith, few, c.in_ok-bytes.ensures.within))
