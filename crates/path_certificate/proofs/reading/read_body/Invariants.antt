use Rattle.std.proofs.Common.{◌≡◌, length}
use Rattle.std.specs.Prelude.{Ok}
use Rattle.te_text.specs.Reading.{and_then}
use Rattle.path_certificate.specs.Text.{body_in, gathered, least_behind}
use Rattle.path_certificate.proofs.Gathering.{further}
use Rattle.path_certificate.proofs.reading.read_body.Given as goal

-- the labels so far, and what the lines that are left say, are what all lines say
abbrev pub invariant-loop-line : goal.invariant-loop-line
invariant-loop-line l =
    further l.topology.nodes l.labels l.stranger (body_in l.end (least_behind l.last) l.lines) ≡ and_then (body_in l.end 0 l.initial.lines) (λ body. Ok (gathered l.topology.nodes body))

abbrev pub decreases-loop-line : goal.decreases-loop-line
decreases-loop-line l = length l.lines
